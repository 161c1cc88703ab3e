-- One turn suffices.
use Rattle.std.proofs.Common.{◌≡◌, ℕ, ◌+◌, ◌-◌, ◌⊎◌, Bool, true, false, ◌&&◌, ◌||◌, List, [], ◌∷◌, ◌++◌, length, Some, slice_get, if◌then◌else◌, nat_le, nat_eq, refl}
use Rattle.std.proofs.Common.{sym, ap, subst, inl, inr, ◌∙◌, arith}
use Rattle.std.proofs.lemmas.Bool.Decides.{nat_tests}
use Rattle.bac_apdu.specs.Apdu.{Apdu}
use Rattle.bac_segment.specs.Pieces.{join}
use Rattle.bac_protocol.specs.declared.times.TheConstants.{T_OUT}
use Rattle.bac_protocol.specs.Context.{Context}
use Rattle.bac_protocol.specs.Service.{Reply}
use Rattle.bac_protocol.specs.Service.Ending.{TimedOut, Expired}
use Rattle.bac_protocol.specs.Client as client
use Rattle.bac_protocol.specs.Client.{Phase, ClientTransaction, is_idle, is_expired, request_of}
use Rattle.bac_protocol.specs.Client.Phase.{AwaitConfirmation}
use Rattle.bac_protocol.specs.Client.Reaction.{Stays, Repeats, Ends}
use Rattle.bac_protocol.specs.Log.{Has, StoreModel}
use Rattle.bac_protocol.specs.Log.Fact.{Performed}
use Rattle.bac_protocol.specs.Transaction.{Key, Rules, client_context}
use Rattle.bac_protocol.specs.World.{World, Post, Event, later, is_short, is_deliverable, post_of, happens, run, start, reacts, ticks_ticket, takes_at_server, client_now}
use Rattle.bac_protocol.specs.World.Event.{Tick, Deliver}
use Rattle.bac_protocol.specs.Claims.{IsBounded}
use Rattle.bac_protocol.specs.Pace.{Pace, IsTimely}
use Rattle.bac_protocol.proofs.Headline.{Kept, run_kept, event_kept, start_kept}
use Rattle.bac_protocol.proofs.Keys.{set_same}
use Rattle.bac_liveness.specs.Runs.{IsOnItsWay, StaysSince}
use Rattle.bac_liveness.specs.RoundTrip.{request_to, answer_to, FitsInOne, CanPerform, HasPerformed, IsAnsweredNow, IsServed}
use Rattle.bac_liveness.specs.Turns.{IsDue, OneTurnSuffices}
use Rattle.bac_liveness.proofs.Endings.{request_now}
use Rattle.bac_liveness.proofs.RoundTrips.{trip, sound, bounded_in}
use Rattle.bac_liveness.proofs.Paths.{Any, Bounded, event_steps, path_bounded}
use Rattle.bac_liveness.proofs.Robust.{at_end}

-- the last copy that was sent has no later ones, and may arrive at once

none_later : (key : Key) (xs : List Post) (q : Post) → later key (length xs) (xs ++ q ∷ []) ≡ 0
none_later key [] q = refl
none_later key (p ∷ xs) q = none_later key xs q

last_on_its_way : (S : Type 0) (x : Rules) (w : World S) (key : Key) (a : Apdu) (posts : List Post)
    → w.net.posts ≡ posts ++ post_of key w.net.now a ∷ [] → IsOnItsWay x w.net key a (length posts)
last_on_its_way S x w key a posts is = record {
  post = post_of key w.net.now a;
  at = ap (λ (ps : List Post). slice_get ps (length posts)) is ∙ at_end posts (post_of key w.net.now a);
  key_is = refl;
  apdu_is = refl;
  arrives = ap (λ (ps : List Post). is_deliverable x (record w.net { posts = ps }) (length posts) (post_of key w.net.now a)) is
      ∙ ap (λ (k : ℕ). nat_le (w.net.now - w.net.now) w.net.pace.life && (nat_le k x.overtake || is_short w.net key)) (none_later key posts (post_of key w.net.now a)) ∙ both;
}
  where
    young : nat_le (w.net.now - w.net.now) w.net.pace.life ≡ true
    young = grind (arith, nat_tests)

    none : nat_le 0 x.overtake ≡ true
    none = grind (arith, nat_tests)

    both : (nat_le (w.net.now - w.net.now) w.net.pace.life && (nat_le 0 x.overtake || is_short w.net key)) ≡ true
    both = ap (λ b. b && (nat_le 0 x.overtake || is_short w.net key)) young ∙ ap (λ b. b || is_short w.net key) none

-- a tick that is due sends the request
due_repeats : (c : Context) (t : ClientTransaction) → t.ask.whole ≡ true → IsDue c.now t
    → client.client_ticks c t ≡ Repeats t.phase (client.request_apdu c t.ask ∷ [])
due_repeats c t whole d =
    ap (λ (ph : Phase). if is_idle ph then Stays else if is_expired c.now t.ask then Ends [] Expired else client.open_ticks c t ph) d.waits
    ∙ ap (λ b. if b then Ends [] Expired else client.open_ticks c t AwaitConfirmation) in_time
    ∙ ap (λ b. if b then client.repeats c t else Stays) due
    ∙ ap (λ b. if b then client.repeats_whole c t else client.repeats_pieces c t) whole
    ∙ ap (λ b. if b then Ends [] TimedOut else Repeats t.phase (client.request_apdu c t.ask ∷ [])) left
  where
    in_time : is_expired c.now t.ask ≡ false
    in_time = let y = d.in_time in grind (arith, nat_tests)

    due : nat_le T_OUT (c.now - t.since) ≡ true
    due = let y = d.due in grind (arith, nat_tests)

    left : nat_eq t.repeats 0 ≡ false
    left = let y = d.left in grind (arith, nat_tests)

module _ (S : Type 0) (model : StoreModel S) (opening : ℕ → S) (W : ℕ) (x : Rules) (bound : IsBounded W x) where
  module _ (w : World S) (s : Kept S model opening W x bound w) (bounded : Bounded w.net) (key : Key) (t : ClientTransaction) (at : w.net.tickets key ≡ Some t)
      (whole : t.ask.whole ≡ true)
      (d : IsDue (client_now w.net key) t) (p : Reply) (fits : FitsInOne x key t.ask p) (free other : Bool)
      (can : CanPerform S model w key t.ask free p ⊎ HasPerformed x w.net key t.ask (Some (join t.ask.pieces)) p) where
    -- the tick
    abbrev r : client.Reaction
    r = Repeats t.phase (request_to x key t.ask ∷ [])

    abbrev v : World S
    v = reacts S w key t r

    ticked : happens S model x w (Tick (key ∷ []) []) ≡ v
    ticked = ap (ticks_ticket S x w key) at ∙ ap (reacts S w key t) (due_repeats (client_context x key (client_now w.net key)) t whole d)

    v_sound : Kept S model opening W x bound v
    v_sound = subst (λ (y : World S). Kept S model opening W x bound y) ticked (event_kept S model opening W x bound w s (Tick (key ∷ []) []))

    abbrev t_next : ClientTransaction
    t_next = client.after (client_now w.net key) t r

    t_there : v.net.tickets key ≡ Some t_next
    t_there = set_same w.net.tickets key (Some t_next)

    request : IsOnItsWay x v.net key (request_to x key t.ask) (length w.net.posts)
    request = last_on_its_way S x v key (request_to x key t.ask) w.net.posts refl

    can_now : CanPerform S model w key t.ask free p ⊎ HasPerformed x w.net key t.ask (Some (join t.ask.pieces)) p
        → CanPerform S model v key t.ask free p ⊎ HasPerformed x v.net key t.ask (Some (join t.ask.pieces)) p
    can_now (inl c) = inl (record { none = c.none; slot = c.slot; serving = c.serving; outcome = c.outcome })
    can_now (inr h) = inr (record { entry = h.entry; at = h.at; live = h.live; request_is = h.request_is; state = h.state })

    -- the first delivery
    abbrev u : World S
    u = happens S model x v (Deliver (length w.net.posts) free)

    u_is : u ≡ takes_at_server S model x v key free (request_to x key t.ask)
    u_is = request_now S model x v key (request_to x key t.ask) (length w.net.posts) free refl request

    v_bounded : Bounded v.net
    v_bounded = subst (λ (y : World S). Bounded y.net) ticked (path_bounded x Any w.net (happens S model x w (Tick (key ∷ []) [])).net
        (event_steps x S model w bounded (Tick (key ∷ []) [])) bounded)

    stays : StaysSince w.net key (w.net.made key)
    stays = (((sound S model opening W x bound w s key t at).2).lives (ap is_idle d.waits))

    stays_u : StaysSince u.net key (w.net.made key)
    stays_u = subst (λ (y : World S). StaysSince y.net key (w.net.made key)) (sym u_is) stays

    served : IsServed S model x key t.ask p v u
    served = trip S model opening W x bound v v_sound v_bounded key t_next t_there p fits whole free (can_now can) (length w.net.posts) request

    u_now : u.net.now ≡ w.net.now
    u_now = ap (λ (y : World S). y.net.now) u_is

    answer : IsOnItsWay x u.net key (answer_to x key t.ask p) (length v.net.posts)
    answer = last_on_its_way S x u key (answer_to x key t.ask p) v.net.posts
        (served.sent ∙ ap (λ (m : ℕ). v.net.posts ++ post_of key m (answer_to x key t.ask p) ∷ []) (sym u_now))

    number_is : (xs : List Post) (q : Post) → length (xs ++ q ∷ []) ≡ length xs + 1
    number_is [] q = refl
    number_is (y ∷ xs) q = let h = number_is xs q in omega arith

    -- the second
    turn_at_v : Has (Performed (w.net.numbers key) (request_of t.ask) p) u.net.log
        × IsAnsweredNow S key (w.net.numbers key) p u (happens S model x u (Deliver (length w.net.posts + 1) other))
    turn_at_v = (
      served.performed,
      subst (λ (k : ℕ). IsAnsweredNow S key (w.net.numbers key) p u (happens S model x u (Deliver k other)))
          (number_is w.net.posts (post_of key w.net.now (request_to x key t.ask)))
          (served.answered [] stays_u (record {
            ticket = t_next;
            at = ap (λ (y : World S). y.net.tickets key) u_is ∙ t_there;
            going = ap is_idle d.waits;
            in_time = let y = d.in_time in let z : client_now u.net key ≡ client_now w.net key = ap (λ (y : World S). client_now y.net key) u_is in omega arith;
          }) (length v.net.posts) answer other),
    )

    pub turn : (let y = happens S model x (happens S model x w (Tick (key ∷ []) [])) (Deliver (length w.net.posts) free) in
        Has (Performed (w.net.numbers key) (request_of t.ask) p) y.net.log
        × IsAnsweredNow S key (w.net.numbers key) p y (happens S model x y (Deliver (length w.net.posts + 1) other)))
    turn = subst (λ (a : World S). let y = happens S model x a (Deliver (length w.net.posts) free) in
        Has (Performed (w.net.numbers key) (request_of t.ask) p) y.net.log
        × IsAnsweredNow S key (w.net.numbers key) p y (happens S model x y (Deliver (length w.net.posts + 1) other))) (sym ticked) turn_at_v

  pub turns : (pace : Pace) → IsTimely pace → (clocks : ℕ → ℕ) → (events : List Event)
      → OneTurnSuffices S model x (run S model x events (start S pace clocks opening))
  turns pace timely clocks events key t at whole d p fits free other can =
      turn (run S model x events (start S pace clocks opening)) (run_kept S model opening W x bound events (start S pace clocks opening)
      (start_kept S model opening W x bound pace timely clocks))
      (bounded_in S model opening W x bound pace timely clocks events) key t at whole d p fits free other can
