-- The code of each kind of record, and what a record says. Assumes nothing.
use Rattle.std.specs.Prelude.{◌≡◌, ℕ, ◌+◌, Bool, true, false, ◌&&◌, ◌||◌, List, ◌==◌}
use Rattle.plan.specs.Items.{clause_at, item_fits, letter_fits}
use Rattle.plant.specs.Conditions.{masks_below}
use Rattle.plan.specs.declared.clause.Clause.{Clause}
use Rattle.plan.specs.declared.item.Item.{Item}
use Rattle.plan.specs.declared.item.Item.TheVariants.{Start as StartItem, Next as NextItem, Auxiliary as AuxiliaryItem, Ban as BanItem}
use Rattle.plan.specs.declared.kind.ItemKind.{ItemKind}
use Rattle.plan.specs.declared.kind.ItemKind.TheVariants.{Start, Next, Auxiliary, Ban}
use Rattle.plan.specs.declared.kind.PlanKind.{PlanKind}
use Rattle.plan.specs.declared.kind.PlanKind.TheVariants.{Head, Item as ItemRecord, End}
use Rattle.plan.specs.declared.sizes.PlanSizes.{PlanSizes}

abbrev pub item_code : ItemKind → ℕ
item_code Start = 2
item_code Next = 3
item_code Auxiliary = 4
item_code Ban = 5

abbrev pub code_of : PlanKind → ℕ
code_of Head = 1
code_of (ItemRecord kind) = item_code kind
code_of End = 15

-- the code of the record that says the item
abbrev pub code_for : Item → ℕ
code_for (StartItem c) = 2
code_for (NextItem c) = 3
code_for (AuxiliaryItem c) = 4
code_for (BanItem c) = 5

-- the item as a clause: a ban has only a condition
abbrev pub said : Item → Clause
said (StartItem c) = c
said (NextItem c) = c
said (AuxiliaryItem c) = c
said (BanItem c) = record { letter = 0; value = false; condition = c }

-- letter and masks of the item are in order
abbrev pub fits_in : PlanSizes → Item → Bool
fits_in s i =
    (code_for i == 5 || letter_fits s.pair.state_bits s.pair.lines s.auxiliaries (code_for i) (said i).letter)
    && masks_below (s.pair.state_bits + s.pair.lines + s.auxiliaries) (said i).condition

-- the record of this code at the offset is in order
abbrev pub in_order : PlanSizes → List ℕ → ℕ → ℕ → Bool
in_order s bs o code = item_fits s.pair.state_bits s.pair.lines s.auxiliaries bs o code

-- it is in order, and says the item
pub record Says (s : PlanSizes) (bs : List ℕ) (o code : ℕ) (i : Item) : Type 0 where
  pub fits : in_order s bs o code ≡ true
  pub kind : code_for i ≡ code
  pub clause : said i ≡ clause_at bs o code
