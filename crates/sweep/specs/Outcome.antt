-- What the call for the lasting states answers and leaves. Assumes nothing.
use Rattle.std.specs.Prelude.{◌≡◌, Bool, List, length, Ok, Err, Result, ◌≢◌}
use Rattle.plant.specs.Meaning.{Meaning, states}
use Rattle.sweep.specs.Greatest.{Greatest, lasting_states}
use Rattle.plant.specs.declared.lent.WrongLength.{WrongLength}

-- flags of a wrong number are left alone and the right number is answered; else they become the greatest lasting set
pub record Flagged (m : Meaning) (before after : List Bool) (r : Result (Unit {0}) WrongLength) : Type 0 where
  pub refused : (length before ≢ states m) → (r ≡ Err (record { needed = states m })) × (after ≡ before)
  pub answered : length before ≡ states m → r ≡ Ok tt
  pub flags : length before ≡ states m → after ≡ lasting_states m
  pub greatest : length before ≡ states m → Greatest m after
