-- Why a start is refused.
use Rattle.std.proofs.Common.{◌≡◌, List, inl, inr, subst}
use Rattle.bac_value.specs.Views.{object_identifier_view}
use Rattle.bac_store.specs.Stores.{Store}
use Rattle.sqlite_value.specs.Order.{Row}
use Rattle.sqlite_trees.specs.View.{View}
use Rattle.bac_keep.specs.declared.fault.KeepFault.{KeepFault}
use Rattle.bac_keep.specs.declared.fault.KeepFault.TheVariants as keep
use Rattle.bac_keep.specs.Cells.{Cells}
use Rattle.bac_keep.specs.Refused.{HasBadCell, IsBadOctets, IsBadValues, IsUnfit}
use Rattle.bac_keep_file.specs.Refused.{HasOtherRow, IsRefused, IsUnreadable, IsUnready}
use Rattle.bac_keep_file.specs.Rows.{cells_of}
use Rattle.bac_keep_file.proofs.RowReading.{or_earlier}

pub unready : (document : Store) (old new : View) (failed : Type 0) (e : KeepFault) → IsUnready old new e → IsRefused document old new failed e
unready document old new failed keep.Shut it = it
unready document old new failed keep.NoTable it = it
unready document old new failed (keep.Database e) it = absurd it
unready document old new failed keep.BadRow it = absurd it
unready document old new failed (keep.BadValues o m f) it = absurd it
unready document old new failed (keep.BadOctets o f) it = absurd it
unready document old new failed keep.HighNumber it = absurd it
unready document old new failed keep.NoMemory it = absurd it

pub unreadable : (document : Store) (old new : View) (failed later : Type 0) → (failed → later) → (rows : List Row) → rows ≡ old.committed 0 → (e : KeepFault)
    → IsUnreadable rows failed e → IsRefused document old new later e
unreadable document old new failed later longer rows same (keep.Database e) it = or_earlier longer it
unreadable document old new failed later longer rows same keep.BadRow it = inl (subst HasOtherRow same it)
unreadable document old new failed later longer rows same keep.NoMemory it = tt
unreadable document old new failed later longer rows same keep.Shut it = absurd it
unreadable document old new failed later longer rows same keep.NoTable it = absurd it
unreadable document old new failed later longer rows same (keep.BadValues o m f) it = absurd it
unreadable document old new failed later longer rows same (keep.BadOctets o f) it = absurd it
unreadable document old new failed later longer rows same keep.HighNumber it = absurd it

pub unfit : (document : Store) (old new : View) (failed : Type 0) (cells : Cells) → cells ≡ cells_of old.committed → (e : KeepFault) → IsUnfit document cells e
    → IsRefused document old new failed e
unfit document old new failed cells same (keep.BadValues o n f) it = subst (λ (x : Cells). IsBadValues document x (object_identifier_view o) n f) same it
unfit document old new failed cells same (keep.BadOctets o f) it = subst (λ (x : Cells). IsBadOctets document x (object_identifier_view o) f) same it
unfit document old new failed cells same keep.BadRow it = inr (subst (λ (x : Cells). HasBadCell document x) same it)
unfit document old new failed cells same keep.NoMemory it = tt
unfit document old new failed cells same (keep.Database e) it = absurd it
unfit document old new failed cells same keep.Shut it = absurd it
unfit document old new failed cells same keep.NoTable it = absurd it
unfit document old new failed cells same keep.HighNumber it = absurd it
