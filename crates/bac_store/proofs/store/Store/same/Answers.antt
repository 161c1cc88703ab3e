-- Stores are equal if their objects are.
use Rattle.bac_store.proofs.Equal.{decided}
use Rattle.bac_store.proofs.store.Store.same.Goals as goal

pub returns : goal.returns
returns c = rw (← c.self.view_is, ← c.other.view_is, ← c.deref.ensures.value, ← c.deref-2.ensures.value) (decided _ c.are_same_objects.ensures)
