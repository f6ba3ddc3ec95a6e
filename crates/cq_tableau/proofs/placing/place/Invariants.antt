-- The products so far, over the quantities.
use Rattle.std.proofs.Common.{◌≡◌, ◌≤◌, take}
use Rattle.spec_numbers.specs.Prefixes.{IsPrefix}
use Rattle.cq_form.specs.Entries.{products_of}
use Rattle.cq_dict.specs.DictValue.{quantities_of}
use Rattle.cq_tableau.specs.Stored.{StaysStored, IsPlaced}
use Rattle.cq_tableau.specs.Numbered.{AreNumbered}
use Rattle.cq_tableau.proofs.placing.place.Given as goal

abbrev pub invariant-loop-entry : goal.invariant-loop-entry
invariant-loop-entry l = record {
  placed : IsPlaced l.names.now (products_of (take l.entry-index l.entry-items)) l.entries.items;
  stored : StaysStored l.fn.names.now (quantities_of l.fn.dict) l.names.now (quantities_of l.dict);
  grows : IsPrefix l.fn.names.now l.names.now;
  numbered : AreNumbered l.names.now l.numbers.entries;
  names_saved : l.names.saved ≡ l.fn.names.saved;
  names_room : l.fn.names.room ≤ l.names.room;
  dict_saved : l.dict.saved ≡ l.fn.dict.saved;
  dict_room : l.fn.dict.room ≤ l.dict.room;
}
