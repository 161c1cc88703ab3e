-- Which logs are right where some servers let invoke IDs be used again: as in Log of bac_protocol, but such a server may perform a read more than once.
use Rattle.std.specs.Prelude.{◌≡◌, ℕ, ◌⊎◌, true, false, List, [], ◌∷◌, if◌then◌else◌, nat_eq}
use Rattle.bac_protocol.specs.Service.Outcome.{Replies}
use Rattle.bac_protocol.specs.Log.{Fact, Has, StoreModel, AreSame, IsUnperformed, MayEnter}
use Rattle.bac_protocol.specs.Log.Fact.{Asked, Performed}
use Rattle.bac_protocol.specs.Reuse.{Reads}
use Rattle.bac_reuse.specs.Runs.{Reusing}

-- a request is performed as it was asked, with the reply of its server's store as it then is; it was not performed before, or is a read, and its server lets
-- invoke IDs be used again
abbrev pub MayEnterSo : (S : Type 0) → StoreModel S → Reusing → Fact → List Fact → (old new : ℕ → S) → Type 0
MayEnterSo S model u (Performed n r p) log old new =
    (c : ℕ)
    × (s : ℕ)
    × Has (Asked n c s r) log
    × (IsUnperformed n log ⊎ ((u.reuses s ≡ true) × (u.reads r.choice ≡ true)))
    × (model.outcome (old s) r.choice r.service ≡ Replies p)
    × ((node : ℕ) → new node ≡ (if nat_eq node s then model.after (old s) r else old node))
MayEnterSo S model u f log old new = MayEnter S model f log old new

-- The log is right, and leads from the opening stores to these. An ask is performed at most once, but a read at a server that lets invoke IDs be used again
-- each time that this takes it: as it was asked, with the reply of the server's store as it then was. Every ask ends at most once, and is answered with a reply
-- with which it was performed before. Stores change by performed requests, by changes at their nodes, and by restarts of these alone.
abbrev pub IsOnceSo : (S : Type 0) → StoreModel S → Reusing → (opening : ℕ → S) → List Fact → (stores : ℕ → S) → Type 0
IsOnceSo S model u opening [] stores = AreSame S opening stores
IsOnceSo S model u opening (f ∷ log) stores = (old : ℕ → S) × MayEnterSo S model u f log old stores × IsOnceSo S model u opening log old

-- nothing that was performed is a read
abbrev pub HasNoRead : Reads → List Fact → Type 0
HasNoRead reads [] = Unit {0}
HasNoRead reads (Performed n r p ∷ log) = (reads r.choice ≡ false) × HasNoRead reads log
HasNoRead reads (f ∷ log) = HasNoRead reads log
