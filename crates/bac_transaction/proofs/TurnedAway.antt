-- Which requests a server turns away.
use Rattle.std.proofs.Common.{◌≡◌, ℕ, ◌+◌, ◌-◌, Bool, true, false, not, List, [], ◌∷◌, map, length, Option, Some, None}
use Rattle.std.proofs.Common.{if◌then◌else◌, nat_eq, nat_le, refl, ap, sym, subst, ◌∙◌, arith}
use Rattle.bac_apdu.specs.Apdu.{Apdu, Limits}
use Rattle.bac_apdu.specs.Apdu.Apdu.{ConfirmedRequest, Abort}
use Rattle.bac_npdu.specs.Peers.{PeerView}
use Rattle.bac_segment.specs.Pieces.{join, pieces_of}
use Rattle.bac_segment.specs.Window.{Taking, incoming, takes}
use Rattle.bac_slots.specs.Slots.{value_at}
use Rattle.bac_protocol.specs.Context.{Settings, Context}
use Rattle.bac_protocol.specs.Own.{invoke_id_of}
use Rattle.bac_protocol.specs.Sizes.{Way, allows_segments, reply_way_of, reply_way_in_segments, transfer_size}
use Rattle.bac_protocol.specs.Sizes.Way.{InOne, InSegments, Refused}
use Rattle.bac_protocol.specs.Service.{Octets, Reply, Outcome, OTHER}
use Rattle.bac_protocol.specs.Service.Outcome.{Replies, Rejects}
use Rattle.bac_protocol.specs.Server as server
use Rattle.bac_protocol.specs.Server.{ServerTransaction, Reaction, Service, is_none_live, idle_on_apdu, server_on_apdu, server_abort}
use Rattle.bac_transaction.specs.Keys.{same_key}
use Rattle.bac_transaction.specs.Sends.{Send, to_all}
use Rattle.bac_transaction.specs.Ends.{ServerEnd, ServerTurn, is_free, put_entry, act_at, server_goes, responder_on_apdu, context_of, key_of}
use Rattle.bac_transaction.specs.Tables.{BeginsRequest, IsTurnedAway, IsWithoutCapacity, TurnsAway}
use Rattle.bac_transaction.proofs.ServerTables.{idle_is, live_anyway, dead_stays}

-- Where no slot is free.

turned : (c : Context) (service : Service) (o : Option ServerTransaction) (a : Apdu) → BeginsRequest a
    → idle_on_apdu c service o false a ≡ server.rests o (Abort true c.invoke_id OTHER ∷ [])
turned c service o (ConfirmedRequest limits i None choice octets) h = refl
turned c service o (ConfirmedRequest limits i (Some g) choice octets) h =
    ap (λ n. if not (nat_eq n 0) then server.rests o [] else server.rests o (server_abort c OTHER ∷ [])) h
turned c service o _ h = absurd h

-- Where one is, the Abort with that reason is not what is sent.

way_has_reason : (size : ℕ) (limits : Limits) (service : Octets) (b : Bool) (reason : ℕ)
    → (if b then InOne else reply_way_in_segments limits (pieces_of (size - 5) service)) ≡ Refused reason → reason ≡ 0 → ⊥
way_has_reason size limits service true reason is z = absurd cc
way_has_reason size limits service false reason is z =
    go (not limits.takes_segments) (allows_segments limits.max_segments (length (pieces_of (size - 5) service))) is
  where
    go : (b d : Bool) → (if b then Refused 4 else if d then InSegments (pieces_of (size - 5) service) else Refused 1) ≡ Refused reason → ⊥
    go true d is = let r : 4 ≡ reason = cc in absurd (omega (arith, r, z))
    go false true is = absurd cc
    go false false is = let r : 1 ≡ reason = cc in absurd (omega (arith, r, z))

reply_has_reason : (s : Settings) (limits : Limits) (p : Reply) (reason : ℕ) → reply_way_of s limits p ≡ Refused reason → reason ≡ 0 → ⊥
reply_has_reason s limits Reply.Simple reason is z = absurd cc
reply_has_reason s limits (Reply.Error class code) reason is z = absurd cc
reply_has_reason s limits (Reply.Complex service) reason is z =
    way_has_reason (transfer_size s.limits.max_apdu limits.max_apdu) limits service
    (nat_le (length service + 3) (transfer_size s.limits.max_apdu limits.max_apdu)) reason is z

module _ (c : Context) (service : Service) where
  abbrev refusal : List Apdu
  refusal = Abort true c.invoke_id OTHER ∷ []

  sends_other : (e : ServerTransaction) (octets : Octets) (p : Reply) (way : Way ℕ) → ((reason : ℕ) → way ≡ Refused reason → reason ≡ 0 → ⊥)
      → (server.sends_reply c e [] octets p way).sends ≡ refusal → ⊥
  sends_other e octets Reply.Simple InOne h is = absurd cc
  sends_other e octets (Reply.Complex whole) InOne h is = absurd cc
  sends_other e octets (Reply.Error class code) InOne h is = absurd cc
  sends_other e octets p (InSegments pieces) h is = absurd cc
  sends_other e octets p (Refused reason) h is = let same : reason ≡ 0 = cc in h reason refl same

  so_other : (e : ServerTransaction) (octets : Octets) (o : Outcome) → (server.performs_so c e [] octets o).sends ≡ refusal → ⊥
  so_other e octets (Replies p) is =
      sends_other e octets p (reply_way_of c.settings e.limits p) (λ reason w z. reply_has_reason c.settings e.limits p reason w z) is
  so_other e octets (Rejects reason) is = absurd cc

  -- after a SegmentACK something else is sent
  after_ack : (e : ServerTransaction) (number window : ℕ) (octets : Octets) (o : Outcome)
      → (server.performs_so c e (server.server_ack c false number window ∷ []) octets o).sends ≡ refusal → ⊥
  after_ack e number window octets (Rejects reason) is = absurd cc
  after_ack e number window octets (Replies p) is = go (reply_way_of c.settings e.limits p) is
    where
      go : (way : Way ℕ) → (server.sends_reply c e (server.server_ack c false number window ∷ []) octets p way).sends ≡ refusal → ⊥
      go InOne is = absurd cc
      go (InSegments pieces) is = absurd cc
      go (Refused reason) is = absurd cc

  taken_other : (e : ServerTransaction) (number window : ℕ) (t : Taking) → (server.request_segment_taken c service e number window t).sends ≡ refusal → ⊥
  taken_other e number window (Taking.Taken true inc) is = absurd cc
  taken_other e number window (Taking.Taken false inc) is = absurd cc
  taken_other e number window (Taking.Whole parts) is = after_ack (server.keeps_first parts e) number window (join parts) (service e.choice (join parts)) is
  taken_other e number window (Taking.Nak inc) is = absurd cc
  taken_other e number window Taking.TooLong is = let r : ◌≡◌ {A = ℕ} 1 0 = cc in absurd (omega (arith, r))

  begun_other : (o : Option ServerTransaction) (a : Apdu) → BeginsRequest a → (idle_on_apdu c service o true a).sends ≡ refusal → ⊥
  begun_other o (ConfirmedRequest limits i None choice octets) h is =
      so_other (server.begins c choice limits (Some octets)) octets (service choice octets) is
  begun_other o (ConfirmedRequest limits i (Some g) choice octets) h is =
      taken_other begun g.number (incoming c.settings.window g.window).window what (sym (ap (λ (r : Reaction). r.sends) first) ∙ is)
    where
      begun : ServerTransaction
      begun = server.begins c choice limits None

      what : Taking
      what = takes (incoming c.settings.window g.window) g.number g.more octets

      first : server.idle_on_segment c service o true choice limits g octets
          ≡ server.request_segment_taken c service begun g.number (incoming c.settings.window g.window).window what
      first = ap (λ n. if not (nat_eq n 0) then server.rests o []
          else server.request_segment_taken c service begun g.number (incoming c.settings.window g.window).window what) h
  begun_other o _ h is = absurd h

-- The end.

apdus_of : (peer : PeerView) (xs : List Apdu) → map (λ (s : Send). s.apdu) (to_all peer xs) ≡ xs
apdus_of peer [] = refl
apdus_of peer (x ∷ xs) = ap (λ l. x ∷ l) (apdus_of peer xs)

module _ (c : Settings) (now : ℕ) (service : Service) (peer : PeerView) (a : Apdu) (e : ServerEnd) where
  abbrev context : Context
  context = context_of c now (key_of peer a)

  abbrev old : Option ServerTransaction
  old = value_at same_key (key_of peer a) e.slots

  abbrev turn_of : Reaction → ServerTurn
  turn_of v = server_goes now e (key_of peer a) v

  turned_away : BeginsRequest a → is_none_live now old ≡ true → is_free now e ≡ false → IsTurnedAway peer a e (responder_on_apdu c now service peer a e)
  turned_away h dead full =
      let is : server_on_apdu context service old (is_free now e) a ≡ server.rests old (Abort true (invoke_id_of a) OTHER ∷ []) =
      ap (λ b. server_on_apdu context service old b a) full ∙ idle_is context service old false a dead ∙ turned context service old a h in
      subst (λ (v : Reaction). IsTurnedAway peer a e (turn_of v)) (sym is) (record {
        end = ap (λ l. record e { slots = l }) (dead_stays now (key_of peer a) old e.slots dead);
        sends = refl;
        act = refl;
      })

  not_free : BeginsRequest a → is_none_live now old ≡ true → IsTurnedAway peer a e (responder_on_apdu c now service peer a e) → is_free now e ≡ false
  not_free h dead away = go (is_free now e) refl
    where
      go : (b : Bool) → is_free now e ≡ b → b ≡ false
      go false free = refl
      go true free =
          let is : server_on_apdu context service old (is_free now e) a ≡ idle_on_apdu context service old true a =
          ap (λ b. server_on_apdu context service old b a) free ∙ idle_is context service old true a dead in
          let sent : (idle_on_apdu context service old true a).sends ≡ Abort true (invoke_id_of a) OTHER ∷ [] =
          sym (apdus_of peer (idle_on_apdu context service old true a).sends)
          ∙ ap (λ (v : Reaction). map (λ (s : Send). s.apdu) (to_all peer v.sends)) (sym is) ∙ ap (λ l. map (λ (s : Send). s.apdu) l) away.sends in
          absurd (begun_other context service old a h sent)

  anyway : (capacity : ℕ) → is_none_live now old ≡ false
      → IsWithoutCapacity (responder_on_apdu c now service peer a e) (responder_on_apdu c now service peer a (record e { capacity = capacity }))
  anyway capacity live =
      let other : ServerEnd = record e { capacity = capacity } in
      let is = live_anyway context service old (is_free now other) (is_free now e) a live in
      record {
        slots = ap (λ (v : Reaction). put_entry now (key_of peer a) v.entry e.slots) is;
        sends = ap (λ (v : Reaction). to_all peer v.sends) is;
        act = ap (λ (v : Reaction). act_at (key_of peer a) v.effect) is;
      }

pub turns_away : TurnsAway
turns_away = record {
  full = λ c now service peer a e h dead. (not_free c now service peer a e h dead, turned_away c now service peer a e h dead);
  live = λ c now service peer a e capacity live. anyway c now service peer a e capacity live;
}
