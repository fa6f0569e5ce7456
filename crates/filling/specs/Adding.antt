-- Lists that grow in lent places. Assumes nothing.
use Rattle.std.specs.Prelude.{◌≡◌, ℕ, ◌+◌, ◌≤◌, List, length}
use Rattle.filling.specs.Writing.{Wrote}
use Rattle.filling.specs.declared.Filling.{Filling}

-- so many places more are left
abbrev pub HasRoom : {X : Type 0} → Filling X → ℕ → Type 0
HasRoom f n = f.filled + n ≤ length f.places.now

-- the places are the same ones, and as many; xs was written into the next of them
pub record Added {X : Type 0} (f f' : Filling X) (xs : List X) : Type 0 where
  pub same_places : f'.places.ghost_name ≡ f.places.ghost_name
  pub size : length f'.places.now ≡ length f.places.now
  pub within : f'.filled ≤ length f.places.now
  pub wrote : Wrote f.places.now f'.places.now f.filled f'.filled xs
