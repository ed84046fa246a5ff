-- Refusals: a number, the link that it is about if any, and the height of the layer that refused.
use Rattle.std.specs.Prelude.{ℕ, cond, not, ◌||◌, Some, None, Ok, Err, Option, Result, ◌==◌}
use Rattle.rows.specs.Rows.{Kind, Price, less, linkable}
use Rattle.chart.specs.declared.fault.Cause.{Cause}
use Rattle.chart.specs.declared.fault.Cause.TheVariants.{NotAChart, OutsideLimits, GuardFull, BadLink, BadEstimate, NoLink, Held, BadPrice, ShortMemory}
use Rattle.chart.specs.declared.fault.ChartFault.{ChartFault}
use Rattle.chart.specs.Meaning.{Link, Meaning, link_at}

pub record Refusal : Type 0 where
  pub by : ℕ
  pub link : Option ℕ
  pub height : ℕ

-- each cause's number
abbrev pub number : Cause → ℕ
number NotAChart = 1
number OutsideLimits = 2
number GuardFull = 3
number BadLink = 4
number BadEstimate = 5
number NoLink = 6
number Held = 7
number BadPrice = 8
number ShortMemory = 9

-- what a fault says
abbrev pub told : ChartFault → Refusal
told f = record { by = number f.cause; link = f.link; height = f.height }

-- the refusal in an answer, if it is one
abbrev pub refused : {A : Type 0} → Result A ChartFault → Option Refusal
refused (Ok x) = None
refused (Err f) = Some (told f)

-- the first unless there is no refusal, then the second
abbrev pub unless : {A : Type 0} → Option Refusal → A → A → A
unless None as-was then = then
unless (Some r) as-was then = as-was

-- why a link may not be set to a price, if it may not: 6 there is no such link, 7 it is held, 8 the price is
-- below the floor or a number of it is above the kind's largest
abbrev pub refusal_at : Kind → Option Link → ℕ → Price → Option Refusal
refusal_at k None n p = Some (record { by = 6; link = Some n; height = 0 })
refusal_at k (Some l) n p =
    cond (not (l.held == 0)) (Some (record { by = 7; link = Some n; height = l.held }))
    (cond (less p l.floor || not (linkable k p)) (Some (record { by = 8; link = Some n; height = 0 })) None)

abbrev pub refusal : Meaning → ℕ → Price → Option Refusal
refusal m n p = refusal_at m.kind (link_at m n) n p
