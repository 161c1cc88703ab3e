-- What a command for people asks, and what its status says.
use Rattle.std.specs.Prelude.{◌≡◌, ⊤, ℕ, Bool, List, Option, true, false, map}
use Rattle.std.specs.Bool.{MatchBool}
use Rattle.bac_value.specs.Views.{object_identifier_view}
use Rattle.bac_npdu.specs.Peers.{PeerView}
use Rattle.bac_npdu.specs.Views.{peer_view}
use Rattle.bac_value.specs.Value.{ObjectId}
use Rattle.bac_text.specs.declared.status.Status.{Status}
use Rattle.bac_commands.specs.Statuses.{ByStatus}
use Rattle.bac_environment.specs.Sockets.{Clocks, Links}
use Rattle.bac_asking.specs.Unheard.{IsUnheard}
use Rattle.bac_asking.specs.declared.asking.Asking.{Asking}
use Rattle.bac_points.specs.Lists.{Lists}
use Rattle.bac_points.specs.Reads.{ReadsWords}
use Rattle.bac_points.specs.Writes.{Writes}
use Rattle.bac_points.specs.declared.task.PointTask.{PointTask}
use Rattle.bac_points.specs.declared.task.PointWork.{PointWork}
use Rattle.bac_points.specs.declared.task.PointWork.TheVariants as work
use Rattle.bac_points.specs.declared.task.Writing.{Writing}

-- Where nothing listens at the node, nothing is asked, and that is no success.

abbrev pub ReadsIfHeard : (is_unheard : Bool) → Links → Clocks → Asking → PeerView → (words : List (List ℕ)) → (all : Bool) → Type 0
ReadsIfHeard is_unheard IsOn IsClock asking peer words all = MatchBool is_unheard (all ≡ false) (ReadsWords IsOn IsClock asking peer words all)

abbrev pub WritesIfHeard : (is_unheard : Bool) → Links → Clocks → Asking → PeerView → Writing → (done : Bool) → (old new : Option (List ℕ)) → Type 0
WritesIfHeard is_unheard IsOn IsClock asking peer writing done old new =
    MatchBool is_unheard ((done ≡ false) × (new ≡ old)) (Writes IsOn IsClock asking peer writing done old new)

abbrev pub ListsIfHeard : (is_unheard : Bool) → Links → Clocks → Asking → PeerView → ObjectId → (all : Bool) → Type 0
ListsIfHeard is_unheard IsOn IsClock asking peer device all = MatchBool is_unheard (all ≡ false) (Lists IsOn IsClock asking peer device all)

-- what `read` and `points` print is tested
abbrev pub IsWork : Links → Clocks → Asking → PeerView → (is_unheard : Bool) → PointWork → Status → (old new : Option (List ℕ)) → Type 0
IsWork IsOn IsClock asking peer is_unheard (work.Read words) s old new =
    ByStatus s (ReadsIfHeard is_unheard IsOn IsClock asking peer (map (λ w. w.now) words.now) true)
    (ReadsIfHeard is_unheard IsOn IsClock asking peer (map (λ w. w.now) words.now) false) ⊤
IsWork IsOn IsClock asking peer is_unheard (work.Write writing) s old new =
    ByStatus s (WritesIfHeard is_unheard IsOn IsClock asking peer writing true old new)
    (WritesIfHeard is_unheard IsOn IsClock asking peer writing false old new) ⊤
IsWork IsOn IsClock asking peer is_unheard (work.List listing) s old new =
    ByStatus s (ListsIfHeard is_unheard IsOn IsClock asking peer (object_identifier_view listing.device) true)
    (ListsIfHeard is_unheard IsOn IsClock asking peer (object_identifier_view listing.device) false) ⊤

-- the work was done, unless the system's table of sockets has none where the node is
pub record ArePoints (IsAt : (path : List ℕ) → (content : Option (List ℕ)) → Type 0) (IsOn : Links) (IsClock : Clocks) (task : PointTask) (s : Status)
    (old new : Option (List ℕ)) : Type 0 where
  pub is_unheard : Bool
  pub because : is_unheard ≡ true → IsUnheard IsAt (peer_view task.peer)
  pub works : IsWork IsOn IsClock task.asking (peer_view task.peer) is_unheard task.work s old new
