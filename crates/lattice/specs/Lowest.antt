-- The lowest of some numbers, one after another.
use Rattle.std.specs.Prelude.{ℕ, cond, min, Some, None, Option, nat_le}

-- a number, where there is one and it is no lower than k
abbrev pub from_on : ℕ → Option ℕ → Option ℕ
from_on k None = None
from_on k (Some n) = cond (nat_le k n) (Some n) None

-- the lower of two numbers, where there are any
abbrev pub lower_of : Option ℕ → Option ℕ → Option ℕ
lower_of None b = b
lower_of (Some m) None = Some m
lower_of (Some m) (Some n) = Some (min m n)
