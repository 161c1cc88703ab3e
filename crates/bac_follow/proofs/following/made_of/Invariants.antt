-- The remaining changes make of the copy what all of them make of the store, and the first of them that cannot be made is the first of all.
use Rattle.std.proofs.Common.{◌≡◌, drop, map}
use Rattle.bac_store.specs.Views.{change_view}
use Rattle.bac_follow.specs.Following.{first_refused, made}
use Rattle.bac_follow.proofs.following.made_of.Given as goal

abbrev pub invariant-loop-change : goal.invariant-loop-change
invariant-loop-change l =
    record {
      made_all : made (map change_view (drop l.change-index l.changes)) l.store ≡ made (map change_view l.changes) l.store-2;
      refused : first_refused (map change_view (drop l.change-index l.changes)) l.store ≡ first_refused (map change_view l.changes) l.store-2;
    }
