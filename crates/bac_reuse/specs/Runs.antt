-- Runs in which some servers let clients use an invoke ID again as soon as its transaction is over. All that is not said here is as in World of bac_protocol.
use Rattle.std.specs.Prelude.{◌≡◌, ℕ, Bool, true, false, List, [], ◌∷◌, Option, Some, None, slice_get, if◌then◌else◌, nat_eq}
use Rattle.bac_apdu.specs.Apdu.{Apdu}
use Rattle.bac_protocol.specs.Service.{Request}
use Rattle.bac_protocol.specs.Log.{StoreModel}
use Rattle.bac_protocol.specs.Reuse.{Reads, server_hears}
use Rattle.bac_protocol.specs.Transaction.{Key, Rules, server_context}
use Rattle.bac_protocol.specs.Wire.{is_from_client}
use Rattle.bac_protocol.specs.World.{Event, Post, World, happens, is_deliverable, is_room, server_now, serves, serves_away, service_of, strays_to_client, takes_at_client}
use Rattle.bac_protocol.specs.World.Event.{MakeAsk, Deliver, Stray}

-- which nodes let invoke IDs be used again, and which requests are reads
pub record Reusing : Type 0 where
  pub reuses : (node : ℕ) → Bool
  pub reads : Reads

-- at one time these nodes do, of those that ever do
abbrev pub with_reuses : Reusing → (reuses : ℕ → Bool) → Reusing
with_reuses ever reuses = record ever { reuses = reuses }

abbrev pub AreOf : (reuses : ℕ → Bool) → Reusing → Type 0
AreOf reuses ever = (node : ℕ) → reuses node ≡ true → ever.reuses node ≡ true

-- all but that one are as before
abbrev pub AreSameBut : (node : ℕ) → (old new : ℕ → Bool) → Type 0
AreSameBut node old new = (m : ℕ) → nat_eq m node ≡ false → new m ≡ old m

-- an APDU reaches the server
abbrev pub takes_at_server_so : (S : Type 0) → StoreModel S → Rules → Reusing → World S → Key → (free : Bool) → Apdu → World S
takes_at_server_so S model x u w key free a = serves S model w key
    (server_hears (u.reuses key.server) (server_context x key (server_now w.net key)) (service_of S model w key) u.reads (w.net.entries key)
    (is_room w.net key free) a)

-- a copy reaches the other end of its transaction
abbrev pub arrives_so : (S : Type 0) → StoreModel S → Rules → Reusing → World S → Key → (free : Bool) → Apdu → World S
arrives_so S model x u w key free a =
    if is_from_client a then takes_at_server_so S model x u w key free a else takes_at_client S x w key a (w.net.tickets key)

-- one that is not deliverable is lost
abbrev pub delivered_so : (S : Type 0) → StoreModel S → Rules → Reusing → World S → (number : ℕ) → (free : Bool) → Option Post → World S
delivered_so S model x u w number free None = w
delivered_so S model x u w number free (Some p) =
    if is_deliverable x w.net number p then arrives_so S model x u w p.key free p.copy.apdu else w

-- any APDU of a stranger reaches a node's server, or its client
abbrev pub strays_so : (S : Type 0) → StoreModel S → Rules → Reusing → World S → Key → (free : Bool) → Apdu → World S
strays_so S model x u w key free a =
    if is_from_client a then serves_away S model w key
    (server_hears (u.reuses key.server) (server_context x key (server_now w.net key)) (service_of S model w key) u.reads (w.net.far.entries key)
    (is_room w.net key free) a)
    else strays_to_client S x w key a (w.net.far.tickets key)

-- the world after an event
abbrev pub happens_so : (S : Type 0) → StoreModel S → Rules → Reusing → World S → Event → World S
happens_so S model x u w (Deliver number free) = delivered_so S model x u w number free (slice_get w.net.posts number)
happens_so S model x u w (Stray key free a) = strays_so S model x u w key free a
happens_so S model x u w e = happens S model x w e

-- the world after these events, in their order
abbrev pub run_so : (S : Type 0) → StoreModel S → Rules → Reusing → List Event → World S → World S
run_so S model x u [] w = w
run_so S model x u (e ∷ es) w = run_so S model x u es (happens_so S model x u w e)

-- a read changes no store
abbrev pub ReadsChangeNothing : (S : Type 0) → StoreModel S → Reads → Type 0
ReadsChangeNothing S model reads = (store : S) (request : Request) → reads request.choice ≡ true → model.after store request ≡ store

-- in these events no node asks another one for a read
abbrev pub AskNoRead : Reads → List Event → Type 0
AskNoRead reads [] = Unit {0}
AskNoRead reads (MakeAsk key choice whole front rest ∷ es) = (reads choice ≡ false) × AskNoRead reads es
AskNoRead reads (e ∷ es) = AskNoRead reads es

-- no node lets invoke IDs be used again
abbrev pub NoneReuses : Reusing → Type 0
NoneReuses u = (node : ℕ) → u.reuses node ≡ false
