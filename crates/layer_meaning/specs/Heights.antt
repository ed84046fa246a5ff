-- The height of a layer.
use Rattle.std.specs.Prelude.{ℕ, ◌+◌, min}

-- one higher than the chart below, 255 at most
abbrev pub above : ℕ → ℕ
above h = min (h + 1) 255
