use Rattle.lifelong.proofs.Repairs.{later_key}
use Rattle.lifelong.proofs.Rising.{next_key}
use Rattle.lifelong.proofs.keys_never_fall.Goals as goal

pub returns : goal.returns
returns c = record {
  next = λ m law gs b p q e d. next_key m law gs b p e q d;
  later = later_key;
}
