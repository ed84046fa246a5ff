-- How many places the route of a trace has.
use Rattle.std.specs.Prelude.{ℕ, length, Some, None, Option}
use Rattle.lifelong.specs.Trace.{Traced, misses, none, shows}

-- none where no route is shown
abbrev pub route_length : Traced → Option ℕ
route_length none = None
route_length misses = None
route_length (shows ps) = Some (length ps)
