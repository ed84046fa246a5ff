-- The directions in which the links of a lattice lead.
use Rattle.std.specs.Prelude.{ℕ, ◌+◌, ◌/◌, ◌%◌, List, [], ◌∷◌, length, slice_index_or}

-- direction: how many columns a link leads to the left or right, and how many rows up or down
pub record Direction : Type 0 where
  pub left : ℕ
  pub right : ℕ
  pub up : ℕ
  pub down : ℕ

-- the directions in the order of the link numbers of a place: up, right, down, left
abbrev pub directions : List Direction
directions =
    record { left = 0; right = 0; up = 1; down = 0 } ∷ record { left = 0; right = 1; up = 0; down = 0 }
    ∷ record { left = 0; right = 0; up = 0; down = 1 } ∷ record { left = 1; right = 0; up = 0; down = 0 } ∷ []

-- each place has a link number for each direction
abbrev pub links_per_place : ℕ
links_per_place = length directions

-- to stay in the same cell, which is no direction of the list
abbrev pub still : Direction
still = record { left = 0; right = 0; up = 0; down = 0 }

-- a direction by its number
abbrev pub direction : ℕ → Direction
direction d = slice_index_or directions d still

-- the other way
abbrev pub turned : Direction → Direction
turned d = record { left = d.right; right = d.left; up = d.down; down = d.up }

-- the number of the direction that leads back: half the list further on
abbrev pub back : ℕ → ℕ
back d = (d + links_per_place / 2) % links_per_place
