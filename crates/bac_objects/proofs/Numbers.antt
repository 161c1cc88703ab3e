-- Reading properties one after the other.
use Rattle.std.proofs.Common.{◌≡◌, ℕ, ◌+◌, ◌<◌, ◌==◌, true, if◌then◌else◌, List, length, map, drop, get_or, Some}
use Rattle.std.proofs.lemmas.List.{drop_more}
use Rattle.bac_store.specs.declared.object.Property as listed
use Rattle.bac_store.specs.Views.{property_view}
use Rattle.bac_objects.specs.Consistency.{values_of}
use Rattle.bac_objects.specs.Properties.{has_number}

pub number_next : (ps : List listed.Property) (n i : ℕ) (d : listed.Property) → i < length ps
    → has_number n (map property_view (drop i ps))
    ≡ (if (get_or ps i d).number == n then true else has_number n (map property_view (drop (i + 1) ps)))
number_next ps n i d l = rw (drop_more ps i d l)

pub values_next : (ps : List listed.Property) (n i : ℕ) (d : listed.Property) → i < length ps
    → values_of n (map property_view (drop i ps))
    ≡ (if (get_or ps i d).number == n then Some (get_or ps i d).values.octets.items else values_of n (map property_view (drop (i + 1) ps)))
values_next ps n i d l = rw (drop_more ps i d l)
