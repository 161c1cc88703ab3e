-- Each move of a net in which servers let invoke IDs be used again is followed by a net of bac_protocol.
use Rattle.std.proofs.Common.{◌≡◌, ℕ, ◌+◌, ◌-◌, ◌≤◌, ◌⊎◌, Bool, true, false, ◌&&◌, ◌||◌, List, [], ◌∷◌, ◌++◌, length, map, Option, Some, None}
use Rattle.std.proofs.Common.{slice_get, if◌then◌else◌, nat_eq, nat_le, refl, ap, sym, subst, inl, inr, ◌∙◌, arith}
use Rattle.std.proofs.lemmas.Bool.Decides.{nat_tests}
use Rattle.bac_apdu.specs.Apdu.{Apdu}
use Rattle.bac_apdu.specs.Apdu.Apdu.{Abort}
use Rattle.bac_protocol.specs.Pace.{IsTimely, Pace, clock_at}
use Rattle.bac_protocol.specs.Context.{Context}
use Rattle.bac_protocol.specs.Service.{Ending, OTHER, Octets}
use Rattle.bac_protocol.specs.Service.Ending.{Aborted}
use Rattle.bac_protocol.specs.Service.Outcome.{Rejects}
use Rattle.bac_protocol.specs.Wire.{is_from_client}
use Rattle.bac_protocol.specs.Client as client
use Rattle.bac_protocol.specs.Client.{Ask, ClientTransaction, is_idle, request_of}
use Rattle.bac_protocol.specs.Client.Phase.{Idle}
use Rattle.bac_protocol.specs.Client.Reaction.{Ends, Stays}
use Rattle.bac_protocol.specs.Server as server
use Rattle.bac_protocol.specs.Server.{Effect, ServerTransaction, Service}
use Rattle.bac_protocol.specs.Log.{Fact, IsOrderly, WasAsked}
use Rattle.bac_protocol.specs.Log.Fact.{Asked, AskedAway, Changed, Restarted}
use Rattle.bac_protocol.specs.Reuse.{server_hears}
use Rattle.bac_protocol.specs.Transaction.{Copy, Key, Rules, client_context, ended_away, served, server_context}
use Rattle.bac_protocol.specs.World.{Net, Post, asked_at, asked_away_at, begin_of, client_acts, client_acts_away, client_now, client_restarted}
use Rattle.bac_protocol.specs.World.{copies_of, is_id_held, is_id_held_away, is_room, later, lost, net_start, notes_change, passes, post_of, server_acts}
use Rattle.bac_protocol.specs.World.{server_acts_away, server_now, server_restarted, set_at, with_clock, with_node}
use Rattle.bac_protocol.specs.World.{is_short, begun, begun_again, is_active, is_quiet}
use Rattle.bac_protocol.specs.declared.times.TheConstants.{KEEP}
use Rattle.bac_protocol.proofs.Resting.{not_active, unserved_acts_away, unserved_more, unserved_restarts}
use Rattle.bac_protocol.proofs.Sound.{IsClear}
use Rattle.bac_protocol.proofs.Standing.{Stands, few_are_clear, ask_stands, away_asks, away_reacts, away_right, begin_again_stands, begin_stands, change_stands, client_restart_stands}
use Rattle.bac_protocol.proofs.Standing.{served_stands, server_restart_stands, spent_stands, start_stands, ticket_gets, ticket_stays, ticket_ticks, time_stands}
use Rattle.bac_protocol.specs.Moves.{Move, strayed_to_client, taken_by_client, ticket_ticked, ticket_ticked_away}
use Rattle.bac_protocol.specs.Moves.Move.{Asks, Arrives, TicksTicket, TicksEntry, Passes, Changes, RestartsClient, RestartsServer, Begins, BeginsAgain}
use Rattle.bac_protocol.specs.Moves.Move.{Strays, AsksAway, TicksTicketAway, TicksEntryAway}
use Rattle.bac_protocol.specs.Claims.{IsBounded}
use Rattle.bac_protocol.proofs.Alone.{one}
use Rattle.bac_protocol.proofs.Asks.{IsSpent}
use Rattle.bac_protocol.proofs.Dead.{ended_is_silent}
use Rattle.bac_protocol.proofs.Facts.{all_map, grows_more}
use Rattle.bac_protocol.proofs.Keys.{copy_at, decide_key, set_nothing, set_other, set_same}
use Rattle.bac_protocol.proofs.Nets.{net_log, sound_at}
use Rattle.bac_protocol.proofs.Paces.{shows_on}
use Rattle.bac_reuse.specs.Moves.{IsOrderlySo, IsReachedSo, arrived_so, moved_so, strayed_to_server_so, taken_by_server_so}
use Rattle.bac_reuse.specs.Moves.IsReachedSo.{Still, Moved}
use Rattle.bac_reuse.specs.Runs.{AreOf, Reusing, with_reuses}
use Rattle.bac_reuse.proofs.Beside.{AbortsOf, AreGone, Fit, FitOf, IsForeign, IsLike, IsYoung, Own, fit_later, fit_none, fit_on, foreign_more, gone_both, like_at}
use Rattle.bac_reuse.proofs.Beside.{ended_away_grows, like_key, likes_join, likes_later, likes_map, likes_same, logs_both, logs_ending_away, logs_served, over, served_grows, set_keeps}
use Rattle.bac_reuse.proofs.Clients.{AbortsIf, EndsAsAborted, IsAnswer, answer_comes, asks_steady, gets_steady, steady_ends, ticks_steady}
use Rattle.bac_reuse.proofs.Machine.{IsGone, gone_ticks}
use Rattle.bac_reuse.proofs.Simulated.{IsFollowed, Like, set_below, client_ended, client_same, copy_comes, follows, ticks_on}
use Rattle.bac_reuse.proofs.NetSteps.{client_ends}

all_there : (posts : List Post) → posts ++ [] ≡ posts
all_there [] = refl
all_there (p ∷ posts) = ap (λ (ps : List Post). p ∷ ps) (all_there posts)

-- A client that restarts.

aborts_lost : (o : Option ClientTransaction) (a : Apdu) → AbortsOf (lost o) a
aborts_lost None a = tt
aborts_lost (Some t) a = λ is. refl

foreign_lost : (number : ℕ) (o : Option ClientTransaction) (log : List Fact) (a : Apdu) → IsForeign number (lost o) log a
foreign_lost number None log a = tt
foreign_lost number (Some t) log a = inl refl

fit_lost : (u : Reusing) (key : Key) (now : ℕ) (o : Option ClientTransaction) (ours theirs : Option ServerTransaction) → Fit u key now o ours theirs
    → Fit u key now (lost o) ours theirs
fit_lost u key now None ours theirs h = h
fit_lost u key now (Some t) ours theirs h = fit_on u key now t (record t { phase = Idle }) refl (λ idle. refl) ours theirs h

-- the same servers let invoke IDs be used again where the entry is
fit_as : (ever : Reusing) (reuses next : ℕ → Bool) (key : Key) → next key.server ≡ reuses key.server → (now : ℕ) (o : Option ClientTransaction)
    (ours theirs : Option ServerTransaction) → Fit (with_reuses ever reuses) key now o ours theirs → Fit (with_reuses ever next) key now o ours theirs
fit_as ever reuses next key same now None ours theirs h = h
fit_as ever reuses next key same now (Some t) ours theirs h =
    subst (λ (b : Bool). FitOf now (b && (ever.reads t.ask.choice && t.ask.whole)) (is_idle t.phase) t.ask ours theirs) (sym same) h

module _ (W : ℕ) (x : Rules) (bound : IsBounded W x) (ever : Reusing) (reuses : ℕ → Bool) (among : AreOf reuses ever) where
  abbrev u : Reusing
  u = with_reuses ever reuses

  abbrev LikeAt : Net → Own → Type 0
  LikeAt n g = Like ever reuses n g

  abbrev Follows : Net → Type 0
  Follows m = IsFollowed W ever reuses m

  stands : (n : Net) (g : Own) → Stands W n → LikeAt n g → Follows (over n g)
  stands n g s l = follows W ever reuses n g s l

  -- Copies.

  module _ (n : Net) (g : Own) (s : Stands W n) (l : LikeAt n g) (number : ℕ) (p q : Post) (at_theirs : slice_get n.posts number ≡ Some q)
      (like : IsLike n g.log p q) (young : n.now - p.copy.moment ≤ n.pace.life) (clear : IsClear W (n.pieces p.key) (later p.key number n.posts)) where
    place : q ≡ p → slice_get (copies_of p.key n.posts) (later p.key number n.posts) ≡ Some p.copy
    place same = subst (λ (y : Post). slice_get (copies_of y.key n.posts) (later y.key number n.posts) ≡ Some y.copy) same (copy_at number n.posts q at_theirs)

    -- the server's comes to the client
    module _ (t : ClientTransaction) (at : n.tickets p.key ≡ Some t) where
      abbrev told : Context
      told = client_context x p.key (client_now n p.key)

      abbrev Goes : client.Reaction → Type 0
      Goes r = Follows (client_acts (over n g) p.key t r)

      same_copy : q ≡ p → Goes (client.client_on_apdu told x.readable t p.copy.apdu)
      same_copy same =
          let f = sound_at W n p.key (Some t) at s.net in
          let r = client.client_on_apdu told x.readable t p.copy.apdu in
          client_same W x bound ever reuses among n g s l p.key t at r (ended_is_silent.gets told x.readable t p.copy.apdu)
          (steady_ends (client_now n p.key) t r (gets_steady told x.readable t p.copy.apdu))
          (ticket_gets W x bound n s p.key t at p.copy.moment (later p.key number n.posts) clear p.copy.apdu
          ((f.2).arriving (later p.key number n.posts) p.copy (place same) young).1)

      stays : Goes Stays
      stays = client_same W x bound ever reuses among n g s l p.key t at Stays (λ idle. refl) tt (ticket_stays W x bound n s p.key t at)

      abort_copy : Goes (client.client_on_apdu told x.readable t (Abort true p.key.invoke_id OTHER))
      abort_copy =
          let r = client.client_on_apdu told x.readable t (Abort true p.key.invoke_id OTHER) in
          client_same W x bound ever reuses among n g s l p.key t at r (ended_is_silent.gets told x.readable t (Abort true p.key.invoke_id OTHER))
          (steady_ends (client_now n p.key) t r (gets_steady told x.readable t (Abort true p.key.invoke_id OTHER)))
          (ticket_gets W x bound n s p.key t at 0 (later p.key number n.posts) clear (Abort true p.key.invoke_id OTHER) (omega arith))

      was_asked : WasAsked (n.numbers p.key) g.log
      was_asked =
          let f = sound_at W n p.key (Some t) at s.net in
          (p.key.client, p.key.server, request_of t.ask, l.logs.asked (n.numbers p.key) p.key.client p.key.server (request_of t.ask) (f.2).asked)

      answers : IsAnswer (n.numbers p.key) t.ask g.log p.copy.apdu → Goes (client.client_on_apdu told x.readable t p.copy.apdu)
      answers answer = go (answer_comes told x.readable (n.numbers p.key) t g.log was_asked p.key.invoke_id p.copy.apdu answer)
        where
          go : (client.client_on_apdu told x.readable t p.copy.apdu ≡ client.client_on_apdu told x.readable t (Abort true p.key.invoke_id OTHER))
              ⊎ ((client.client_on_apdu told x.readable t p.copy.apdu ≡ Stays)
              ⊎ EndsAsAborted told (n.numbers p.key) g.log t (client.client_on_apdu told x.readable t p.copy.apdu)
              (client.client_on_apdu told x.readable t (Abort true p.key.invoke_id OTHER)))
              → Goes (client.client_on_apdu told x.readable t p.copy.apdu)
          go (inl same) = subst Goes (sym same) abort_copy
          go (inr (inl is)) = subst Goes (sym is) stays
          go (inr (inr e)) = subst Goes (sym e.ends.is) (client_ended W x bound ever reuses among n g s l p.key t at e.going e.ends.sends e.ends.how
              (Aborted OTHER) (steady_ends (client_now n p.key) t (Ends e.ends.sends e.ends.how) tt)
              (client_ends W x bound n s p.key t at e.going e.early e.aborted e.ends.sends e.ends.few) e.ends.may)

      comes : Goes (client.client_on_apdu told x.readable t p.copy.apdu)
      comes = go like
        where
          by : IsForeign (n.numbers p.key) (Some t) g.log p.copy.apdu → Goes (client.client_on_apdu told x.readable t p.copy.apdu)
          by (inl idle) = subst Goes (sym (ended_is_silent.gets told x.readable t p.copy.apdu idle)) stays
          by (inr answer) = answers answer

          go : IsLike n g.log p q → Goes (client.client_on_apdu told x.readable t p.copy.apdu)
          go (inl h) = same_copy h.0
          go (inr h) = by (subst (λ (o : Option ClientTransaction). IsForeign (n.numbers p.key) o g.log p.copy.apdu) at (h.2 young))

    to_client : (o : Option ClientTransaction) → n.tickets p.key ≡ o → Follows (taken_by_client x (over n g) p o)
    to_client None at = stands n g s l
    to_client (Some t) at = comes t at

    -- the client's comes to the server
    none_there : (k : ℕ) (c : Copy) → slice_get [] k ≡ Some c → ⊥
    none_there k c e = cc

    to_server : (free : Bool) (service : Service) → is_from_client p.copy.apdu ≡ true → Follows (taken_by_server_so x u (over n g) p free service)
    to_server free service way = by like
      where
        go : q ≡ p → AbortsOf (n.tickets p.key) p.copy.apdu → (o : Option ClientTransaction) → n.tickets p.key ≡ o
            → Follows (taken_by_server_so x u (over n g) p free service)
        go same aborts None at = absurd (none_there (later p.key number n.posts) p.copy
            (subst (λ (cs : List Copy). slice_get cs (later p.key number n.posts) ≡ Some p.copy) (sound_at W n p.key None at s.net).no_copies (place same)))
        go same aborts (Some t) at = copy_comes W x bound ever reuses among n g s l p.key t at (later p.key number n.posts) clear p.copy (place same) young way
            (subst (λ (o : Option ClientTransaction). AbortsOf o p.copy.apdu) at aborts) service free

        by : IsLike n g.log p q → Follows (taken_by_server_so x u (over n g) p free service)
        by (inl h) = go h.0 (h.1 young) (n.tickets p.key) refl
        by (inr h) = absurd (let no : true ≡ false = sym way ∙ h.1 in cc)

    comes_over : (free : Bool) (service : Service) (up : Bool) → is_from_client p.copy.apdu ≡ up
        → Follows (if up then taken_by_server_so x u (over n g) p free service else taken_by_client x (over n g) p (n.tickets p.key))
    comes_over free service true way = to_server free service way
    comes_over free service false way = to_client (n.tickets p.key) refl

  arrives : (n : Net) (g : Own) → Stands W n → LikeAt n g → (number : ℕ) (free : Bool) (service : Service) (o : Option Post) → slice_get g.posts number ≡ o
      → Follows (arrived_so x u (over n g) number free service o)
  arrives n g s l number free service None at = stands n g s l
  arrives n g s l number free service (Some p) at =
      by (nat_le (n.now - p.copy.moment) n.pace.life) (nat_le (later p.key number g.posts) x.overtake) (is_short (over n g) p.key) refl refl refl
    where
      found : (q : Post) × (slice_get n.posts number ≡ Some q) × IsLike n g.log p q
      found = like_at (IsLike n g.log) g.posts n.posts number p l.posts at

      as_few : later p.key number n.posts ≡ later p.key number g.posts
      as_few = likes_later (IsLike n g.log) (like_key n g.log) p.key number g.posts n.posts l.posts

      comes : n.now - p.copy.moment ≤ n.pace.life → (later p.key number n.posts ≤ x.overtake) ⊎ (n.pieces p.key ≤ 256)
          → Follows (if is_from_client p.copy.apdu then taken_by_server_so x u (over n g) p free service else taken_by_client x (over n g) p (n.tickets p.key))
      comes young clear = comes_over n g s l number p found.0 found.1 found.2 young (few_are_clear W x bound (n.pieces p.key) (later p.key number n.posts) clear)
          free service (is_from_client p.copy.apdu) refl

      by : (a b d : Bool) → nat_le (n.now - p.copy.moment) n.pace.life ≡ a → nat_le (later p.key number g.posts) x.overtake ≡ b
          → is_short (over n g) p.key ≡ d → Follows (if a && (b || d) then (if is_from_client p.copy.apdu then taken_by_server_so x u (over n g) p free service
          else taken_by_client x (over n g) p (n.tickets p.key)) else over n g)
      by true true d young few short = comes (grind (arith, nat_tests))
          (let le : later p.key number g.posts ≤ x.overtake = grind (arith, nat_tests) in inl (subst (λ m. m ≤ x.overtake) (sym as_few) le))
      by true false true young few short = comes (grind (arith, nat_tests))
          (let all : g.pieces p.key ≤ 256 = grind (arith, nat_tests) in let le = l.pieces p.key in inr (omega arith))
      by true false false young few short = stands n g s l
      by false b d young few short = stands n g s l

  -- Ticks.

  ticket_ticks_on : (n : Net) (g : Own) → Stands W n → LikeAt n g → (key : Key) (o : Option ClientTransaction) → n.tickets key ≡ o
      → Follows (ticket_ticked x (over n g) key o)
  ticket_ticks_on n g s l key None at = stands n g s l
  ticket_ticks_on n g s l key (Some t) at =
      let c = client_context x key (client_now n key) in
      let r = client.client_ticks c t in
      client_same W x bound ever reuses among n g s l key t at r (ended_is_silent.ticks c t)
      (steady_ends (client_now n key) t r (ticks_steady c t)) (ticket_ticks W x bound n s key t at)

  entry_ticks_on : (n : Net) (g : Own) → Stands W n → LikeAt n g → (key : Key) (o : Option ClientTransaction) → n.tickets key ≡ o
      → Follows (server_acts (over n g) key (server.server_ticks (server_context x key (server_now n key)) (g.entries key)))
  entry_ticks_on n g s l key (Some t) at = ticks_on W x bound ever reuses among n g s l key t at
  entry_ticks_on n g s l key None at = (
    record n { served = with_node key.server n.served },
    g,
    served_stands W n s key.server,
    record { posts = l.posts; entries = l.entries; logs = l.logs; orderly = l.orderly; pieces = l.pieces; unserved = unserved_more (over n g) l.unserved key.server },
    nothing_done,
  )
    where
      gone : AreGone (server_now n key) (g.entries key) (n.entries key)
      gone = subst (λ (o : Option ClientTransaction). Fit u key (server_now n key) o (g.entries key) (n.entries key)) at (l.entries key)

      nothing_done : server_acts (over n g) key (server.server_ticks (server_context x key (server_now n key)) (g.entries key))
          ≡ over (record n { served = with_node key.server n.served }) g
      nothing_done = ap (λ (v : server.Reaction). server_acts (over n g) key v)
          (gone_ticks (server_context x key (server_now n key)) (λ choice octets. Rejects 0) (g.entries key) gone.0)
          ∙ (λ i. record (over n g) { served = with_node key.server n.served; entries = set_nothing g.entries key (g.entries key) refl i; pieces = set_nothing g.pieces key (g.pieces key) refl i; posts = all_there g.posts i })

  -- Asks.

  module _ (n : Net) (g : Own) (s : Stands W n) (l : LikeAt n g) (key : Key) (choice : ℕ) (whole : Bool) (front : Octets) (rest : List Octets)
      (free : is_id_held n key ≡ false) where
    abbrev ask : Ask
    ask = record { first = client_now n key; choice = choice; whole = whole; pieces = front ∷ rest }

    abbrev asking : Context
    asking = client_context x key (client_now n key)

    abbrev asked_net : Net
    asked_net = asked_at x n key ask

    abbrev fact : Fact
    fact = Asked n.asks key.client key.server (request_of ask)

    abbrev sends : List Apdu
    sends = client.sends_of (client.asks asking ask)

    abbrev asked : Own
    asked = record g { posts = g.posts ++ map (post_of key n.now) sends; log = fact ∷ g.log; pieces = set_at g.pieces key (length ask.pieces) }

    kept_ask : Stands W (asked_at x n key ask)
    kept_ask = ask_stands W x bound n s key choice whole front rest free

    spent : IsSpent (one n key)
    spent = spent_stands W n s key free

    -- a copy of the transaction that was sent before is too old
    old : (i : ℕ) (p q : Post) → slice_get n.posts i ≡ Some q → q.key ≡ p.key → q.copy.moment ≡ p.copy.moment → key ≡ p.key → IsYoung n p → ⊥
    old i p q at same moment is young = spent.old (later key i n.posts) q.copy
        (subst (λ (j : Key). slice_get (copies_of j n.posts) (later j i n.posts) ≡ Some q.copy) (same ∙ sym is) (copy_at i n.posts q at))
        (subst (λ m. n.now - m ≤ n.pace.life) (sym moment) young)

    old_post : (i : ℕ) (p q : Post) → slice_get n.posts i ≡ Some q → IsLike n g.log p q → IsLike asked_net (fact ∷ g.log) p q
    old_post i p q at (inl h) = inl (h.0, λ young. go (decide_key key p.key) young)
      where
        go : ((key ≡ p.key) ⊎ (key ≡ p.key → ⊥)) → IsYoung n p → AbortsOf (asked_net.tickets p.key) p.copy.apdu
        go (inl is) young = absurd (old i p q at (ap (λ (y : Post). y.key) h.0) (ap (λ (y : Post). y.copy.moment) h.0) is young)
        go (inr ne) young = subst (λ (o : Option ClientTransaction). AbortsOf o p.copy.apdu)
            (sym (set_other n.tickets key (Some (client.asked_ticket asking ask)) p.key ne)) (h.1 young)
    old_post i p q at (inr h) = inr (h.0, h.1, λ young. go (decide_key key p.key) young)
      where
        go : ((key ≡ p.key) ⊎ (key ≡ p.key → ⊥)) → IsYoung n p → IsForeign (asked_net.numbers p.key) (asked_net.tickets p.key) (fact ∷ g.log) p.copy.apdu
        go (inl is) young = absurd (old i p q at (ap (λ (y : Post). y.key) h.0) (ap (λ (y : Post). y.copy.moment) h.0) is young)
        go (inr ne) young = subst (λ (m : ℕ). IsForeign m (asked_net.tickets p.key) (fact ∷ g.log) p.copy.apdu) (sym (set_other n.numbers key n.asks p.key ne))
            (subst (λ (o : Option ClientTransaction). IsForeign (n.numbers p.key) o (fact ∷ g.log) p.copy.apdu)
            (sym (set_other n.tickets key (Some (client.asked_ticket asking ask)) p.key ne))
            (foreign_more (n.numbers p.key) (n.tickets p.key) g.log (fact ∷ g.log) (grows_more fact g.log) p.copy.apdu (h.2 young)))

    new_post : (a : Apdu) → AbortsIf (is_idle (client.asked_ticket asking ask).phase) a
        → IsLike asked_net (fact ∷ g.log) (post_of key n.now a) (post_of key n.now a)
    new_post a h = inl (
      refl,
      λ young. subst (λ (o : Option ClientTransaction). AbortsOf o a)
          (sym (set_same n.tickets key (Some (client.asked_ticket asking ask)))) h,
    )

    gone : (o : Option ServerTransaction) → n.entries key ≡ o → IsGone (server_now n key) o
    gone None is = tt
    gone (Some e) is = spent.dead e is

    asks : Follows (asked_at x (over n g) key ask)
    asks = (
      asked_net,
      asked,
      kept_ask,
      record {
        posts = likes_join (IsLike asked_net (fact ∷ g.log)) g.posts n.posts (map (post_of key n.now) sends) (map (post_of key n.now) sends)
            (likes_map (IsLike n g.log) (IsLike asked_net (fact ∷ g.log)) g.posts n.posts old_post l.posts)
            (likes_same (IsLike asked_net (fact ∷ g.log)) key n.now sends
            (all_map (AbortsIf (is_idle (client.asked_ticket asking ask).phase))
            (λ a. IsLike asked_net (fact ∷ g.log) (post_of key n.now a) (post_of key n.now a)) new_post sends
            (steady_ends (client_now n key) (client.new_ticket (client_now n key) ask) (client.asks asking ask) (asks_steady asking ask))));
        entries = λ k. set_keeps n.tickets key (Some (client.asked_ticket asking ask)) (λ j o. Fit u j (server_now n j) o (g.entries j) (n.entries j)) k (l.entries k)
            (λ h. inl (gone_both u key (server_now n key) (n.tickets key) (g.entries key) (n.entries key) (gone (n.entries key) refl) h));
        logs = logs_both ever g.log n.log l.logs fact;
        orderly = (right.0 ∙ sym l.logs.counted, l.orderly);
        pieces = set_below key n.pieces g.pieces (length ask.pieces) (length ask.pieces) (omega arith) l.pieces;
        unserved = l.unserved;
      },
      refl,
    )
      where
        right : IsOrderly (Asked n.asks key.client key.server (request_of ask) ∷ n.log)
        right = (net_log W asked_net kept_ask.net).orderly

  ask_follows : (n : Net) (g : Own) → Stands W n → LikeAt n g → (key : Key) (choice : ℕ) (whole : Bool) (front : Octets) (rest : List Octets) (b : Bool)
      → is_id_held n key ≡ b
      → Follows (if b then over n g else asked_at x (over n g) key (record { first = client_now n key; choice = choice; whole = whole; pieces = front ∷ rest }))
  ask_follows n g s l key choice whole front rest true held = stands n g s l
  ask_follows n g s l key choice whole front rest false free = asks n g s l key choice whole front rest free

  -- Time, changes and restarts.

  module _ (n : Net) (g : Own) (s : Stands W n) (l : LikeAt n g) where
    -- a fact of no ask enters both logs
    more_post : (f : Fact) (p q : Post) → IsLike n g.log p q → IsLike n (f ∷ g.log) p q
    more_post f p q (inl h) = inl h
    more_post f p q (inr h) = inr (
      h.0,
      h.1,
      λ young.
          foreign_more (n.numbers p.key) (n.tickets p.key) g.log (f ∷ g.log) (grows_more f g.log) p.copy.apdu (h.2 young),
    )

    time_passes : (by : ℕ) (clients servers : ℕ → ℕ) → Follows (passes (over n g) by clients servers)
    time_passes by clients servers = (
      passes n by clients servers,
      g,
      time_stands W n s by clients servers,
      record {
        posts = likes_map (IsLike n g.log) (IsLike (passes n by clients servers) g.log) g.posts n.posts (λ i p q at h. later_post p q h) l.posts;
        entries = λ k. fit_later u k (server_now n k) (server_now (passes n by clients servers) k)
            (shows_on n.pace (s.calm k).timely.some by (servers k.server) (n.server_clocks k.server) (s.calm k).server) (n.tickets k) (g.entries k)
            (n.entries k) (l.entries k);
        logs = l.logs;
        orderly = l.orderly;
        pieces = l.pieces;
        unserved = l.unserved;
      },
      refl,
    )
      where
        earlier : (p : Post) → IsYoung (passes n by clients servers) p → IsYoung n p
        earlier p young = omega (arith, young)

        later_post : (p q : Post) → IsLike n g.log p q → IsLike (passes n by clients servers) g.log p q
        later_post p q (inl h) = inl (h.0, λ young. h.1 (earlier p young))
        later_post p q (inr h) = inr (h.0, h.1, λ young. h.2 (earlier p young))

    change_made : (node : ℕ) (change : Octets) → Follows (notes_change (over n g) node change)
    change_made node change = (
      notes_change n node change,
      record g { log = Changed node change ∷ g.log },
      change_stands W n s node change,
      record {
        posts = likes_map (IsLike n g.log) (IsLike n (Changed node change ∷ g.log)) g.posts n.posts (λ i p q at h. more_post (Changed node change) p q h) l.posts;
        entries = l.entries;
        logs = logs_both ever g.log n.log l.logs (Changed node change);
        orderly = l.orderly;
        pieces = l.pieces;
        unserved = l.unserved;
      },
      refl,
    )

    -- from then on that server may let them be used again, or no more
    server_turns : (node exact : ℕ) (store : Option Octets) (next : ℕ → Bool) → ((m : ℕ) → nat_eq m node ≡ false → next m ≡ reuses m)
        → IsFollowed W ever next (server_restarted (over n g) node exact store)
    server_turns node exact store next others = (
      server_restarted n node exact store,
      record g {
        entries = λ key. if nat_eq key.server node then None else g.entries key;
        log = Restarted node store ∷ g.log;
        far_entries = λ key. if nat_eq key.server node then None else g.far_entries key;
      },
      server_restart_stands W n s node exact store,
      record {
        posts = likes_map (IsLike n g.log) (IsLike n (Restarted node store ∷ g.log)) g.posts n.posts (λ i p q at h. more_post (Restarted node store) p q h) l.posts;
        entries = λ k. fits k (nat_eq k.server node) refl;
        logs = logs_both ever g.log n.log l.logs (Restarted node store);
        orderly = l.orderly;
        pieces = l.pieces;
        unserved = unserved_restarts (over n g) l.unserved node ((clock_at n.pace exact).shows + KEEP + 1);
      },
      refl,
    )
      where
        fits : (k : Key) (b : Bool) → nat_eq k.server node ≡ b
            → Fit (with_reuses ever next) k (if b then clock_at n.pace exact else n.server_clocks k.server).shows (n.tickets k)
            (if b then None else g.entries k) (if b then None else n.entries k)
        fits k true is = fit_none (with_reuses ever next) k (clock_at n.pace exact).shows (n.tickets k)
        fits k false is = fit_as ever reuses next k (others k.server is) (server_now n k) (n.tickets k) (g.entries k) (n.entries k) (l.entries k)

    server_restarts : (node exact : ℕ) (store : Option Octets) → Follows (server_restarted (over n g) node exact store)
    server_restarts node exact store = server_turns node exact store reuses (λ m other. refl)

    -- the tickets of a node's client are lost
    fits : (node : ℕ) (k : Key) (b : Bool) → Fit u k (server_now n k) (if b then lost (n.tickets k) else n.tickets k) (g.entries k) (n.entries k)
    fits node k true = fit_lost u k (server_now n k) (n.tickets k) (g.entries k) (n.entries k) (l.entries k)
    fits node k false = l.entries k

    aborts : (o : Option ClientTransaction) (a : Apdu) (b : Bool) → AbortsOf o a → AbortsOf (if b then lost o else o) a
    aborts o a true h = aborts_lost o a
    aborts o a false h = h

    foreign : (number : ℕ) (o : Option ClientTransaction) (a : Apdu) (b : Bool) → IsForeign number o g.log a → IsForeign number (if b then lost o else o) g.log a
    foreign number o a true h = foreign_lost number o g.log a
    foreign number o a false h = h

    client_restarts : (node exact : ℕ) → Follows (client_restarted (over n g) node exact)
    client_restarts node exact = (
      client_restarted n node exact,
      g,
      client_restart_stands W n s node exact,
      record {
        posts = likes_map (IsLike n g.log) (IsLike (client_restarted n node exact) g.log) g.posts n.posts (λ i p q at h. lost_post p q h) l.posts;
        entries = λ k. fits node k (nat_eq k.client node);
        logs = l.logs;
        orderly = l.orderly;
        pieces = l.pieces;
        unserved = l.unserved;
      },
      refl,
    )
      where
        lost_post : (p q : Post) → IsLike n g.log p q → IsLike (client_restarted n node exact) g.log p q
        lost_post p q (inl h) = inl (h.0, λ young. aborts (n.tickets p.key) p.copy.apdu (nat_eq p.key.client node) (h.1 young))
        lost_post p q (inr h) = inr (h.0, h.1, λ young. foreign (n.numbers p.key) (n.tickets p.key) p.copy.apdu (nat_eq p.key.client node) (h.2 young))

    -- a server begins: neither net has an entry of it
    fits_begun : (node exact : ℕ) → n.served node ≡ false → (o : Key → Option ClientTransaction)
        → ((k : Key) → Fit u k (server_now n k) (o k) (g.entries k) (n.entries k)) → (k : Key)
        → Fit u k (with_clock n.pace node exact n.server_clocks k.server).shows (o k) (g.entries k) (n.entries k)
    fits_begun node exact off o fit k = go (nat_eq k.server node) refl
      where
        go : (b : Bool) → nat_eq k.server node ≡ b
            → Fit u k (if b then clock_at n.pace exact else n.server_clocks k.server).shows (o k) (g.entries k) (n.entries k)
        go true is =
            let at : k.server ≡ node = grind (arith, nat_tests) in
            subst (λ (e : Option ServerTransaction). Fit u k (clock_at n.pace exact).shows (o k) e (n.entries k)) (sym ((l.unserved node off).entries k at))
            (subst (λ (e : Option ServerTransaction). Fit u k (clock_at n.pace exact).shows (o k) None e) (sym ((s.unserved node off).entries k at))
            (fit_none u k (clock_at n.pace exact).shows (o k)))
        go false is = fit k

    -- a node begins
    begins : (node exact : ℕ) (b : Bool) → is_active n node ≡ b → Follows (if b then over n g else begun (over n g) node exact)
    begins node exact true is = stands n g s l
    begins node exact false off = (
      begun n node exact,
      g,
      begin_stands W n s node exact off,
      record {
        posts = l.posts;
        entries = fits_begun node exact (not_active n node off).1 n.tickets l.entries;
        logs = l.logs;
        orderly = l.orderly;
        pieces = l.pieces;
        unserved = l.unserved;
      },
      refl,
    )

    -- another client begins at a node
    begins_again : (node exact : ℕ) (b : Bool) → is_quiet n node ≡ b → Follows (if b then begun_again (over n g) node exact else over n g)
    begins_again node exact false is = stands n g s l
    begins_again node exact true quiet = (
      begun_again n node exact,
      g,
      begin_again_stands W n s node exact quiet,
      record {
        posts = likes_map (IsLike n g.log) (IsLike (begun_again n node exact) g.log) g.posts n.posts (λ i p q at h. lost_post p q h) l.posts;
        entries = λ k. entries (n.served node) refl k;
        logs = l.logs;
        orderly = l.orderly;
        pieces = l.pieces;
        unserved = l.unserved;
      },
      refl,
    )
      where
        lost_post : (p q : Post) → IsLike n g.log p q → IsLike (begun_again n node exact) g.log p q
        lost_post p q (inl h) = inl (h.0, λ young. aborts (n.tickets p.key) p.copy.apdu (nat_eq p.key.client node) (h.1 young))
        lost_post p q (inr h) = inr (h.0, h.1, λ young. foreign (n.numbers p.key) (n.tickets p.key) p.copy.apdu (nat_eq p.key.client node) (h.2 young))

        entries : (b : Bool) → n.served node ≡ b → (k : Key)
            → Fit u k ((if b then n.server_clocks else with_clock n.pace node exact n.server_clocks) k.server).shows
            (if nat_eq k.client node then lost (n.tickets k) else n.tickets k) (g.entries k) (n.entries k)
        entries true is k = fits node k (nat_eq k.client node)
        entries false off k = fits_begun node exact off (λ j. if nat_eq j.client node then lost (n.tickets j) else n.tickets j)
            (λ j. fits node j (nat_eq j.client node)) k

  -- Strangers. What a server makes of theirs is its own; their tickets are the same in both.

  module _ (n : Net) (g : Own) (s : Stands W n) (l : LikeAt n g) where
    far_serves : (key : Key) (v : server.Reaction) → Follows (server_acts_away (over n g) key v)
    far_serves key v = (
      record n { served = with_node key.server n.served },
      record g { log = served key (begin_of v.entry) v.effect g.log; far_entries = set_at g.far_entries key v.entry },
      served_stands W n s key.server,
      record {
        posts = likes_map (IsLike n g.log) (IsLike n (served key (begin_of v.entry) v.effect g.log)) g.posts n.posts (λ i p q at h. far_post p q h) l.posts;
        entries = l.entries;
        logs = logs_served ever g.log n.log l.logs key (begin_of v.entry) v.effect;
        orderly = go v.effect;
        pieces = l.pieces;
        unserved = unserved_acts_away (over n g) l.unserved key v.entry;
      },
      refl,
    )
      where
        far_post : (p q : Post) → IsLike n g.log p q → IsLike n (served key (begin_of v.entry) v.effect g.log) p q
        far_post p q (inl h) = inl h
        far_post p q (inr h) = inr (
          h.0,
          h.1,
          λ young. foreign_more (n.numbers p.key) (n.tickets p.key) g.log (served key (begin_of v.entry) v.effect g.log)
              (served_grows key (begin_of v.entry) v.effect g.log) p.copy.apdu (h.2 young),
        )

        go : (o : Option Effect) → IsOrderlySo ever (served key (begin_of v.entry) o g.log)
        go None = l.orderly
        go (Some y) = l.orderly

    far_reacts : (key : Key) (t : ClientTransaction) → n.far.tickets key ≡ Some t → (r : client.Reaction) → (is_idle t.phase ≡ true → r ≡ Stays)
        → Follows (client_acts_away (over n g) key t r)
    far_reacts key t at r silent = (
      client_acts_away n key t r,
      record g { log = ended_away (n.far.numbers key) (client.ending_of r) g.log },
      away_reacts W n s key t at r silent,
      record {
        posts = likes_map (IsLike n g.log) (IsLike (client_acts_away n key t r) (ended_away (n.far.numbers key) (client.ending_of r) g.log)) g.posts n.posts
            (λ i p q at h. far_post p q h) l.posts;
        entries = l.entries;
        logs = logs_ending_away ever g.log n.log l.logs (n.far.numbers key) (client.ending_of r);
        orderly = go (client.ending_of r) (away_right W n s key t at r silent);
        pieces = l.pieces;
        unserved = l.unserved;
      },
      refl,
    )
      where
        far_post : (p q : Post) → IsLike n g.log p q → IsLike (client_acts_away n key t r) (ended_away (n.far.numbers key) (client.ending_of r) g.log) p q
        far_post p q (inl h) = inl h
        far_post p q (inr h) = inr (
          h.0,
          h.1,
          λ young. foreign_more (n.numbers p.key) (n.tickets p.key) g.log (ended_away (n.far.numbers key) (client.ending_of r) g.log)
              (ended_away_grows (n.far.numbers key) (client.ending_of r) g.log) p.copy.apdu (h.2 young),
        )

        go : (o : Option Ending) → IsOrderly (ended_away (n.far.numbers key) o n.log)
            → IsOrderlySo ever (ended_away (n.far.numbers key) o g.log)
        go None right = l.orderly
        go (Some how) right = (
          (right.0.0, right.0.1, right.0.2, l.logs.asked_away (n.far.numbers key) right.0.0 right.0.1 right.0.2 right.0.3),
          l.logs.unended_away (n.far.numbers key) right.1,
          l.orderly,
        )

    far_hears : (key : Key) (a : Apdu) (o : Option ClientTransaction) → n.far.tickets key ≡ o → Follows (strayed_to_client x (over n g) key a o)
    far_hears key a None at = stands n g s l
    far_hears key a (Some t) at =
        let c = client_context x key (client_now n key) in
        far_reacts key t at (client.client_on_apdu c x.readable t a) (ended_is_silent.gets c x.readable t a)

    strays : (key : Key) (free : Bool) (service : Service) (a : Apdu) (up : Bool)
        → Follows (if up then strayed_to_server_so x u (over n g) key free service a else strayed_to_client x (over n g) key a (n.far.tickets key))
    strays key free service a true = far_serves key
        (server_hears (u.reuses key.server) (server_context x key (server_now n key)) service u.reads (g.far_entries key) (is_room n key free) a)
    strays key free service a false = far_hears key a (n.far.tickets key) refl

    far_asks : (key : Key) (away : Ask) (b : Bool) → Follows (if b then over n g else asked_away_at x (over n g) key away)
    far_asks key away true = stands n g s l
    far_asks key away false = (
      asked_away_at x n key away,
      record g { log = AskedAway n.asks key.client key.server (request_of away) ∷ g.log },
      away_asks W n s x key away,
      record {
        posts = likes_map (IsLike n g.log) (IsLike (asked_away_at x n key away) (AskedAway n.asks key.client key.server (request_of away) ∷ g.log)) g.posts n.posts
            (λ i p q at h. far_post p q h) l.posts;
        entries = l.entries;
        logs = logs_both ever g.log n.log l.logs (AskedAway n.asks key.client key.server (request_of away));
        orderly = ((net_log W n s.net).counted ∙ sym l.logs.counted, l.orderly);
        pieces = l.pieces;
        unserved = l.unserved;
      },
      refl,
    )
      where
        far_post : (p q : Post) → IsLike n g.log p q
            → IsLike (asked_away_at x n key away) (AskedAway n.asks key.client key.server (request_of away) ∷ g.log) p q
        far_post p q (inl h) = inl h
        far_post p q (inr h) = inr (
          h.0,
          h.1,
          λ young. foreign_more (n.numbers p.key) (n.tickets p.key) g.log
              (AskedAway n.asks key.client key.server (request_of away) ∷ g.log) (grows_more (AskedAway n.asks key.client key.server (request_of away)) g.log)
              p.copy.apdu (h.2 young),
        )

    far_ticket_ticks : (key : Key) (o : Option ClientTransaction) → n.far.tickets key ≡ o → Follows (ticket_ticked_away x (over n g) key o)
    far_ticket_ticks key None at = stands n g s l
    far_ticket_ticks key (Some t) at =
        let c = client_context x key (client_now n key) in
        far_reacts key t at (client.client_ticks c t) (ended_is_silent.ticks c t)

    far_entry_ticks : (key : Key)
        → Follows (server_acts_away (over n g) key (server.server_ticks (server_context x key (server_now n key)) (g.far_entries key)))
    far_entry_ticks key = far_serves key (server.server_ticks (server_context x key (server_now n key)) (g.far_entries key))

  -- Each move.

  move_follows : (n : Net) (g : Own) → Stands W n → LikeAt n g → (m : Move) → Follows (moved_so x u (over n g) m)
  move_follows n g s l (Asks key choice whole front rest) = ask_follows n g s l key choice whole front rest (is_id_held n key) refl
  move_follows n g s l (Arrives number free service) = arrives n g s l number free service (slice_get g.posts number) refl
  move_follows n g s l (TicksTicket key) = ticket_ticks_on n g s l key (n.tickets key) refl
  move_follows n g s l (TicksEntry key) = entry_ticks_on n g s l key (n.tickets key) refl
  move_follows n g s l (Passes by clients servers) = time_passes n g s l by clients servers
  move_follows n g s l (Changes node change) = change_made n g s l node change
  move_follows n g s l (RestartsClient node exact) = client_restarts n g s l node exact
  move_follows n g s l (RestartsServer node exact store) = server_restarts n g s l node exact store
  move_follows n g s l (Begins node exact) = begins n g s l node exact (is_active n node) refl
  move_follows n g s l (BeginsAgain node exact) = begins_again n g s l node exact (is_quiet n node) refl
  move_follows n g s l (Strays key free service a) = strays n g s l key free service a (is_from_client a)
  move_follows n g s l (AsksAway key choice whole front rest) = far_asks n g s l key
      (record { first = client_now n key; choice = choice; whole = whole; pieces = front ∷ rest }) (is_id_held_away n key)
  move_follows n g s l (TicksTicketAway key) = far_ticket_ticks n g s l key (n.far.tickets key) refl
  move_follows n g s l (TicksEntryAway key) = far_entry_ticks n g s l key

  pub follows_on : (n : Net) → Follows n → (m : Move) → Follows (moved_so x u n m)
  follows_on n h m = subst (λ (y : Net). Follows (moved_so x u y m)) (sym h.4) (move_follows h.0 h.1 h.2 h.3 m)

  pub turned_on : (n : Net) → Follows n → (node exact : ℕ) (store : Option Octets) (next : ℕ → Bool) → ((m : ℕ) → nat_eq m node ≡ false → next m ≡ reuses m)
      → IsFollowed W ever next (server_restarted n node exact store)
  turned_on n h node exact store next others = subst (λ (y : Net). IsFollowed W ever next (server_restarted y node exact store)) (sym h.4)
      (server_turns h.0 h.1 h.2 h.3 node exact store next others)

pub starts_followed : (W : ℕ) (ever : Reusing) (reuses : ℕ → Bool) (pace : Pace) → IsTimely pace → (clocks : ℕ → ℕ)
    → IsFollowed W ever reuses (net_start pace clocks)
starts_followed W ever reuses pace timely clocks = (
  net_start pace clocks,
  record { entries = λ key. None; posts = []; log = []; pieces = λ key. 0; far_entries = λ key. None },
  start_stands W pace clocks timely,
  record {
    posts = tt;
    entries = λ key. (tt, tt);
    logs = record {
      asked = λ i c s r h. h;
      performed = λ i r p h. h;
      unended = λ i h. h;
      unperformed = λ i h. inl h;
      counted = refl;
      asked_away = λ i c q r h. h;
      unended_away = λ i h. h;
    };
    orderly = tt;
    pieces = λ key. omega arith;
    unserved = λ node off. record { entries = λ key is. refl; away = λ key is. refl; opens = refl };
  },
  refl,
)

-- the same servers let them be used again throughout
pub reached_follows : (W : ℕ) (x : Rules) → IsBounded W x → (u : Reusing) (pace : Pace) → IsTimely pace → (clocks : ℕ → ℕ) (n : Net)
    → IsReachedSo x u (net_start pace clocks) n → IsFollowed W u u.reuses n
reached_follows W x bound u pace timely clocks _ Still = starts_followed W u u.reuses pace timely clocks
reached_follows W x bound u pace timely clocks _ (Moved n m h) =
    follows_on W x bound u u.reuses (λ node is. is) n (reached_follows W x bound u pace timely clocks n h) m
