-- What holds of the transactions of nodes with strangers, whatever strangers send.
use Rattle.std.proofs.Common.{◌≡◌, ℕ, ◌+◌, ◌<◌, ◌≤◌, ◌≢◌, ◌⊎◌, Bool, true, false, List, [], ◌∷◌, Option, Some, None, if◌then◌else◌}
use Rattle.std.proofs.Common.{nat_eq, refl, sym, ap, subst, inl, inr, arith, ◌∙◌}
use Rattle.std.proofs.lemmas.Bool.Decides.{nat_tests}
use Rattle.bac_apdu.specs.Apdu.{Apdu}
use Rattle.bac_protocol.specs.Times.{KEEP}
use Rattle.bac_protocol.specs.Pace.{Clock, clock_at, goes_on}
use Rattle.bac_protocol.specs.Context.{Context}
use Rattle.bac_protocol.specs.Service.{Octets, Request, Reply, Ending}
use Rattle.bac_protocol.specs.Client as client
use Rattle.bac_protocol.specs.Client.{ClientTransaction, is_idle}
use Rattle.bac_protocol.specs.Client.Reaction.{Stays, GoesOn, Repeats, Ends}
use Rattle.bac_protocol.specs.Server as server
use Rattle.bac_protocol.specs.Server.{State, ServerTransaction, Effect, Service, is_live, live_entry}
use Rattle.bac_protocol.specs.Server.State.{Done, SegmentedResponse, Dropped}
use Rattle.bac_protocol.specs.Log.{Fact, Has, asks_in, IsOrderly, WasAskedAway, IsUnendedAway}
use Rattle.bac_protocol.specs.Log.Fact.{Asked, Performed, Ended, Changed, Restarted, Served, AskedAway, EndedAway}
use Rattle.bac_protocol.specs.Transaction.{Key, ended, performed, ended_away, served}
use Rattle.bac_protocol.specs.Claims.{HasReply, HasSinceRestart, AreSpaced, AreServedApart}
use Rattle.bac_protocol.specs.Steps.{IsSegmentedRequest, MayPerform, StateStays, StaysIn, IsEntryFor, KeepsReply}
use Rattle.bac_protocol.specs.World.{Net, Strangers, set_at, passes, server_now}
use Rattle.bac_protocol.specs.World.{server_acts_away, begin_of, server_restarted, server_begun}
use Rattle.bac_protocol.proofs.Keys.{key_is, decide_key, set_same, set_other}
use Rattle.bac_protocol.proofs.Nets.{IsLogOf}
use Rattle.bac_protocol.proofs.Paces.{shows_on}
use Rattle.bac_protocol.proofs.Calm.{Calm}
use Rattle.bac_protocol.proofs.Resting.{IsUnserved}
use Rattle.bac_protocol.proofs.Served.{BeginIs, gets_begin, ticks_begin, IsThere, gets_there, live_stays, ticks_stay, effects_are_kept}

-- The log.

away_below : (n c q : ℕ) (r : Request) (log : List Fact) → IsOrderly log → Has (AskedAway n c q r) log → n < asks_in log
away_below n c q r [] o h = absurd h
away_below n c q r (Asked m a b x ∷ log) o (inl e) = absurd cc
away_below n c q r (Asked m a b x ∷ log) o (inr h) = let lt = away_below n c q r log o.1 h in omega arith
away_below n c q r (Performed m x p ∷ log) o (inl e) = absurd cc
away_below n c q r (Performed m x p ∷ log) o (inr h) = away_below n c q r log o.2 h
away_below n c q r (Ended m how ∷ log) o (inl e) = absurd cc
away_below n c q r (Ended m how ∷ log) o (inr h) = away_below n c q r log o.2 h
away_below n c q r (Changed a b ∷ log) o (inl e) = absurd cc
away_below n c q r (Changed a b ∷ log) o (inr h) = away_below n c q r log o h
away_below n c q r (Restarted a b ∷ log) o (inl e) = absurd cc
away_below n c q r (Restarted a b ∷ log) o (inr h) = away_below n c q r log o h
away_below n c q r (Served z s i b x p ∷ log) o (inl e) = absurd cc
away_below n c q r (Served z s i b x p ∷ log) o (inr h) = away_below n c q r log o h
away_below n c q r (AskedAway m a z x ∷ log) o (inl e) = let same : m ≡ n = cc in let is = o.0 in omega arith
away_below n c q r (AskedAway m a z x ∷ log) o (inr h) = let lt = away_below n c q r log o.1 h in omega arith
away_below n c q r (EndedAway m how ∷ log) o (inl e) = absurd cc
away_below n c q r (EndedAway m how ∷ log) o (inr h) = away_below n c q r log o.2 h

pub was_below : (n : ℕ) (log : List Fact) → IsOrderly log → WasAskedAway n log → n < asks_in log
was_below n log o h = away_below n h.0 h.1 h.2 log o h.3

not_ended : (n : ℕ) (log : List Fact) → IsOrderly log → asks_in log ≤ n → IsUnendedAway n log
not_ended n [] o le = tt
not_ended n (Asked m c s r ∷ log) o le = not_ended n log o.1 (omega arith)
not_ended n (Performed m r p ∷ log) o le = not_ended n log o.2 le
not_ended n (Ended m how ∷ log) o le = not_ended n log o.2 le
not_ended n (Changed s c ∷ log) o le = not_ended n log o le
not_ended n (Restarted s o' ∷ log) o le = not_ended n log o le
not_ended n (Served q s i b r p ∷ log) o le = not_ended n log o le
not_ended n (AskedAway m c q r ∷ log) o le = not_ended n log o.1 (omega arith)
not_ended n (EndedAway m how ∷ log) o le = (λ e. let lt = was_below m log o.2 o.0 in omega arith, not_ended n log o.2 le)

-- a fact of nodes alone
abbrev pub IsOfNodes : Fact → Type 0
IsOfNodes (Served q s i b r p) = ⊥
IsOfNodes (AskedAway n c q r) = ⊥
IsOfNodes (EndedAway n how) = ⊥
IsOfNodes _ = Unit {0}

unended_more : (n : ℕ) (f : Fact) (log : List Fact) → IsOfNodes f → IsUnendedAway n log → IsUnendedAway n (f ∷ log)
unended_more n (Asked m c s r) log of h = h
unended_more n (Performed m r p) log of h = h
unended_more n (Ended m how) log of h = h
unended_more n (Changed s c) log of h = h
unended_more n (Restarted s o) log of h = h
unended_more n _ log of h = absurd of

spaced_more : (f : Fact) (log : List Fact) → IsOfNodes f → AreSpaced log → AreSpaced (f ∷ log)
spaced_more (Asked m c s r) log of h = h
spaced_more (Performed m r p) log of h = h
spaced_more (Ended m how) log of h = h
spaced_more (Changed s c) log of h = h
spaced_more (Restarted s o) log of h = h
spaced_more _ log of h = absurd of

-- What holds of one of these transactions.

abbrev pub TicketFits : (number : ℕ) → Option ClientTransaction → List Fact → Type 0
TicketFits number None log = Unit {0}
TicketFits number (Some t) log = WasAskedAway number log × (is_idle t.phase ≡ false → IsUnendedAway number log)

-- an entry performs nothing more: its life is over, or it has a reply
abbrev pub IsPast : (shows : ℕ) → ServerTransaction → Type 0
IsPast shows e = (e.begin + KEEP < shows) ⊎ HasReply e.state

-- what was performed in an entry that began then is of this one, which performs nothing more, or so old that no entry comes so soon
abbrev pub Spaced : (shows : ℕ) → Option ServerTransaction → (begin : ℕ) → Type 0
Spaced shows None b = ⊥
Spaced shows (Some e) b = (b + KEEP < e.begin) ⊎ ((b ≡ e.begin) × IsPast shows e)

-- all that its server performed in it, since it restarted last
abbrev pub Each : Key → (ℕ → Type 0) → List Fact → Type 0
Each key P log = (b : ℕ) (r : Request) (p : Reply) → HasSinceRestart key.server (Served key.client key.server key.invoke_id b r p) log → P b

-- in entries that began since its server serves
abbrev pub IsIn : (shows opens : ℕ) → (begin : ℕ) → Type 0
IsIn shows opens b = (opens ≤ b) × (b ≤ shows)

pub record IsAt (shows opens : ℕ) (key : Key) (number : ℕ) (ticket : Option ClientTransaction) (entry : Option ServerTransaction) (log : List Fact) : Type 0 where
  pub ticket_fits : TicketFits number ticket log
  pub begun : BeginIs (IsIn shows opens) entry
  pub past : Each key (λ b. (opens ≤ b) × Spaced shows entry b) log

-- of all of them
pub record AwayIn (clocks : ℕ → Clock) (opens : ℕ → ℕ) (far : Strangers) (log : List Fact) : Type 0 where
  pub each : (key : Key) → IsAt (clocks key.server).shows (opens key.server) key (far.numbers key) (far.tickets key) (far.entries key) log
  -- no two have an ask of one number
  pub apart : (a b : Key) (s t : ClientTransaction) → far.tickets a ≡ Some s → far.tickets b ≡ Some t → far.numbers a ≡ far.numbers b → a ≡ b
  pub spaced : AreSpaced log

abbrev pub Away : Net → Type 0
Away n = AwayIn n.server_clocks n.serves_from n.far n.log

-- What nodes do among themselves.

-- what a log has of a server since its last restart, it had before a fact of nodes
since_more : (s q i b : ℕ) (r : Request) (p : Reply) (f : Fact) (log : List Fact) → IsOfNodes f → HasSinceRestart s (Served q s i b r p) (f ∷ log)
    → HasSinceRestart s (Served q s i b r p) log
since_more s q i b r p (Asked m c t x) log of (inl e) = absurd cc
since_more s q i b r p (Asked m c t x) log of (inr h) = h
since_more s q i b r p (Performed m x y) log of (inl e) = absurd cc
since_more s q i b r p (Performed m x y) log of (inr h) = h
since_more s q i b r p (Ended m how) log of (inl e) = absurd cc
since_more s q i b r p (Ended m how) log of (inr h) = h
since_more s q i b r p (Changed t c) log of (inl e) = absurd cc
since_more s q i b r p (Changed t c) log of (inr h) = h
since_more s q i b r p (Restarted t o) log of h = h.1
since_more s q i b r p _ log of h = absurd of

ticket_more : (n : ℕ) (o : Option ClientTransaction) (f : Fact) (log : List Fact) → IsOfNodes f → TicketFits n o log → TicketFits n o (f ∷ log)
ticket_more n None f log of h = tt
ticket_more n (Some t) f log of h = ((h.0.0, h.0.1, h.0.2, inr h.0.3), λ idle. unended_more n f log of (h.1 idle))

pub away_more : (clocks : ℕ → Clock) (opens : ℕ → ℕ) (far : Strangers) (f : Fact) (log : List Fact) → IsOfNodes f → AwayIn clocks opens far log
    → AwayIn clocks opens far (f ∷ log)
away_more clocks opens far f log of s = record { each = each; apart = s.apart; spaced = spaced_more f log of s.spaced }
  where
    each : (key : Key) → IsAt (clocks key.server).shows (opens key.server) key (far.numbers key) (far.tickets key) (far.entries key) (f ∷ log)
    each key = record {
      ticket_fits = ticket_more (far.numbers key) (far.tickets key) f log of (s.each key).ticket_fits;
      begun = (s.each key).begun;
      past = past;
    }
      where
        past : Each key (λ b. (opens key.server ≤ b) × Spaced (clocks key.server).shows (far.entries key) b) (f ∷ log)
        past b r p h = (s.each key).past b r p (since_more key.server key.client key.invoke_id b r p f log of h)

pub away_ended : (clocks : ℕ → Clock) (opens : ℕ → ℕ) (far : Strangers) (n : ℕ) (o : Option Ending) (log : List Fact) → AwayIn clocks opens far log
    → AwayIn clocks opens far (ended n o log)
away_ended clocks opens far n None log s = s
away_ended clocks opens far n (Some how) log s = away_more clocks opens far (Ended n how) log tt s

pub away_performed : (clocks : ℕ → Clock) (opens : ℕ → ℕ) (far : Strangers) (n : ℕ) (o : Option Effect) (log : List Fact) → AwayIn clocks opens far log
    → AwayIn clocks opens far (performed n o log)
away_performed clocks opens far n None log s = s
away_performed clocks opens far n (Some x) log s = away_more clocks opens far (Performed n x.request x.reply) log tt s

-- A node's client, which asked a stranger.

-- what an ending does to all others
ended_other : (m : ℕ) (how : Ending) (n : ℕ) (o : Option ClientTransaction) (log : List Fact) → ((t : ClientTransaction) → o ≡ Some t → m ≢ n) → TicketFits n o log
    → TicketFits n o (EndedAway m how ∷ log)
ended_other m how n None log ne h = tt
ended_other m how n (Some t) log ne h = ((h.0.0, h.0.1, h.0.2, inr h.0.3), λ idle. (ne t refl, h.1 idle))

open_of : (t : ClientTransaction) (r : client.Reaction) → (is_idle t.phase ≡ true → r ≡ Stays) → (r ≡ Stays → ⊥) → is_idle t.phase ≡ false
open_of t r silent ne = go (is_idle t.phase) refl
  where
    go : (b : Bool) → is_idle t.phase ≡ b → is_idle t.phase ≡ false
    go true is = absurd (ne (silent is))
    go false is = is

-- the ticket after it
after_fits : (now n : ℕ) (t : ClientTransaction) (r : client.Reaction) (log : List Fact) → (is_idle t.phase ≡ true → r ≡ Stays) → TicketFits n (Some t) log
    → TicketFits n (Some (client.after now t r)) (ended_away n (client.ending_of r) log)
after_fits now n t Stays log silent h = h
after_fits now n t (GoesOn phase sends) log silent h = (h.0, λ idle. h.1 (open_of t (GoesOn phase sends) silent (λ e. cc)))
after_fits now n t (Repeats phase sends) log silent h = (h.0, λ idle. h.1 (open_of t (Repeats phase sends) silent (λ e. cc)))
after_fits now n t (Ends sends how) log silent h = ((h.0.0, h.0.1, h.0.2, inr h.0.3), λ idle. absurd cc)

-- the log after it is right
after_right : (n asks : ℕ) (t : ClientTransaction) (r : client.Reaction) (log : List Fact) → (is_idle t.phase ≡ true → r ≡ Stays) → TicketFits n (Some t) log
    → IsOrderly log → IsOrderly (ended_away n (client.ending_of r) log)
after_right n asks t Stays log silent h o = o
after_right n asks t (GoesOn phase sends) log silent h o = o
after_right n asks t (Repeats phase sends) log silent h o = o
after_right n asks t (Ends sends how) log silent h o = (h.0, h.1 (open_of t (Ends sends how) silent (λ e. cc)), o)

module _ (clocks : ℕ → Clock) (opens : ℕ → ℕ) (far : Strangers) (log : List Fact) (s : AwayIn clocks opens far log) (key : Key) (t : ClientTransaction)
    (at : far.tickets key ≡ Some t) where
  fits_at : TicketFits (far.numbers key) (Some t) log
  fits_at = subst (λ (o : Option ClientTransaction). TicketFits (far.numbers key) o log) at (s.each key).ticket_fits

  pub was_away : WasAskedAway (far.numbers key) log
  was_away = fits_at.0

  pub right_after : (asks : ℕ) (r : client.Reaction) → (is_idle t.phase ≡ true → r ≡ Stays) → IsOrderly log
      → IsOrderly (ended_away (far.numbers key) (client.ending_of r) log)
  right_after asks r silent o = after_right (far.numbers key) asks t r log silent fits_at o

  pub away_after : (now : ℕ) (r : client.Reaction) → (is_idle t.phase ≡ true → r ≡ Stays)
      → AwayIn clocks opens (record far { tickets = set_at far.tickets key (Some (client.after now t r)) }) (ended_away (far.numbers key) (client.ending_of r) log)
  away_after now r silent = record { each = λ k. each k (decide_key key k); apart = apart; spaced = spaced (client.ending_of r) }
    where
      made : Option ClientTransaction
      made = Some (client.after now t r)

      spaced : (o : Option Ending) → AreSpaced (ended_away (far.numbers key) o log)
      spaced None = s.spaced
      spaced (Some how) = s.spaced

      was : (a : Key) (x : ClientTransaction) → ((key ≡ a) ⊎ (key ≡ a → ⊥)) → set_at far.tickets key made a ≡ Some x → (u : ClientTransaction) × (far.tickets a ≡ Some u)
      was a x (inl is) e = (t, sym (ap far.tickets is) ∙ at)
      was a x (inr ne) e = (x, sym (set_other far.tickets key made a ne) ∙ e)

      apart : (a b : Key) (x y : ClientTransaction) → set_at far.tickets key made a ≡ Some x → set_at far.tickets key made b ≡ Some y
          → far.numbers a ≡ far.numbers b → a ≡ b
      apart a b x y e f same =
          let u = was a x (decide_key key a) e in
          let v = was b y (decide_key key b) f in
          s.apart a b u.0 v.0 u.1 v.1 same

      past : (k : Key) (o : Option Ending) → Each k (λ b. (opens k.server ≤ b) × Spaced (clocks k.server).shows (far.entries k) b)
          (ended_away (far.numbers key) o log)
      past k None b r p h = (s.each k).past b r p h
      past k (Some how) b r p (inl e) = absurd cc
      past k (Some how) b r p (inr h) = (s.each k).past b r p h

      other : (k : Key) → (key ≡ k → ⊥) → (o : Option Ending) → TicketFits (far.numbers k) (far.tickets k) (ended_away (far.numbers key) o log)
      other k ne None = (s.each k).ticket_fits
      other k ne (Some how) = ended_other (far.numbers key) how (far.numbers k) (far.tickets k) log
          (λ u is same. ne (s.apart key k t u at is same)) (s.each k).ticket_fits

      each : (k : Key) → ((key ≡ k) ⊎ (key ≡ k → ⊥)) → IsAt (clocks k.server).shows (opens k.server) k (far.numbers k) (set_at far.tickets key made k)
          (far.entries k) (ended_away (far.numbers key) (client.ending_of r) log)
      each k (inl is) = record {
        ticket_fits = subst (λ (j : Key). TicketFits (far.numbers j) (set_at far.tickets key made j) (ended_away (far.numbers key) (client.ending_of r) log)) is
            (subst (λ (o : Option ClientTransaction). TicketFits (far.numbers key) o (ended_away (far.numbers key) (client.ending_of r) log))
            (sym (set_same far.tickets key made)) (after_fits now (far.numbers key) t r log silent fits_at));
        begun = (s.each k).begun;
        past = past k (client.ending_of r);
      }
      each k (inr ne) = record {
        ticket_fits = subst (λ (o : Option ClientTransaction). TicketFits (far.numbers k) o (ended_away (far.numbers key) (client.ending_of r) log))
            (sym (set_other far.tickets key made k ne)) (other k ne (client.ending_of r));
        begun = (s.each k).begun;
        past = past k (client.ending_of r);
      }

-- A new ask of a stranger.
module _ (clocks : ℕ → Clock) (opens : ℕ → ℕ) (far : Strangers) (log : List Fact) (s : AwayIn clocks opens far log) (asks : ℕ) (of : IsLogOf asks log)
    (key : Key) (t : ClientTransaction) (r : Request) where
  pub right_asked : IsOrderly (AskedAway asks key.client key.server r ∷ log)
  right_asked = (of.counted, of.orderly)

  new : List Fact
  new = AskedAway asks key.client key.server r ∷ log

  asked_more : (n : ℕ) (o : Option ClientTransaction) → TicketFits n o log → TicketFits n o (AskedAway asks key.client key.server r ∷ log)
  asked_more n None h = tt
  asked_more n (Some u) h = ((h.0.0, h.0.1, h.0.2, inr h.0.3), λ idle. h.1 idle)

  below : (k : Key) (o : Option ClientTransaction) (u : ClientTransaction) → o ≡ Some u → TicketFits (far.numbers k) o log → far.numbers k < asks
  below k None u is h = absurd cc
  below k (Some v) u is h = let lt = was_below (far.numbers k) log of.orderly h.0 in let e = of.counted in omega arith

  pub away_asked : AwayIn clocks opens (record far { numbers = set_at far.numbers key asks; tickets = set_at far.tickets key (Some t) })
      (AskedAway asks key.client key.server r ∷ log)
  away_asked = record { each = λ k. each k (decide_key key k); apart = λ a b x y. apart a b x y (decide_key key a) (decide_key key b); spaced = s.spaced }
    where
      numbers : Key → ℕ
      numbers = set_at far.numbers key asks

      tickets : Key → Option ClientTransaction
      tickets = set_at far.tickets key (Some t)

      past : (k : Key) → Each k (λ b. (opens k.server ≤ b) × Spaced (clocks k.server).shows (far.entries k) b)
          (AskedAway asks key.client key.server r ∷ log)
      past k b q p (inl e) = absurd cc
      past k b q p (inr h) = (s.each k).past b q p h

      here : TicketFits (set_at far.numbers key asks key) (set_at far.tickets key (Some t) key) (AskedAway asks key.client key.server r ∷ log)
      here = subst (λ (n : ℕ). TicketFits n (set_at far.tickets key (Some t) key) (AskedAway asks key.client key.server r ∷ log))
          (sym (set_same far.numbers key asks))
          (subst (λ (o : Option ClientTransaction). TicketFits asks o (AskedAway asks key.client key.server r ∷ log)) (sym (set_same far.tickets key (Some t)))
          ((key.client, key.server, r, inl refl), λ idle. not_ended asks log of.orderly (let e = of.counted in omega arith)))

      there : (k : Key) → (key ≡ k → ⊥)
          → TicketFits (set_at far.numbers key asks k) (set_at far.tickets key (Some t) k) (AskedAway asks key.client key.server r ∷ log)
      there k ne = subst (λ (n : ℕ). TicketFits n (set_at far.tickets key (Some t) k) (AskedAway asks key.client key.server r ∷ log))
          (sym (set_other far.numbers key asks k ne))
          (subst (λ (o : Option ClientTransaction). TicketFits (far.numbers k) o (AskedAway asks key.client key.server r ∷ log))
          (sym (set_other far.tickets key (Some t) k ne)) (asked_more (far.numbers k) (far.tickets k) (s.each k).ticket_fits))

      each : (k : Key) → ((key ≡ k) ⊎ (key ≡ k → ⊥)) → IsAt (clocks k.server).shows (opens k.server) k (set_at far.numbers key asks k)
          (set_at far.tickets key (Some t) k) (far.entries k) (AskedAway asks key.client key.server r ∷ log)
      each k (inl is) = record {
        ticket_fits = subst (λ (j : Key). TicketFits (set_at far.numbers key asks j) (set_at far.tickets key (Some t) j)
            (AskedAway asks key.client key.server r ∷ log)) is here;
        begun = (s.each k).begun;
        past = past k;
      }
      each k (inr ne) = record { ticket_fits = there k ne; begun = (s.each k).begun; past = past k }

      less : (k : Key) → (key ≡ k → ⊥) → (u : ClientTransaction) → set_at far.tickets key (Some t) k ≡ Some u → set_at far.numbers key asks k < asks
      less k ne u e = subst (λ (n : ℕ). n < asks) (sym (set_other far.numbers key asks k ne))
          (below k (far.tickets k) u (sym (set_other far.tickets key (Some t) k ne) ∙ e) (s.each k).ticket_fits)

      is_new : (k : Key) → key ≡ k → set_at far.numbers key asks k ≡ asks
      is_new k is = subst (λ (j : Key). set_at far.numbers key asks j ≡ asks) is (set_same far.numbers key asks)

      apart : (a b : Key) (x y : ClientTransaction) → ((key ≡ a) ⊎ (key ≡ a → ⊥)) → ((key ≡ b) ⊎ (key ≡ b → ⊥)) → set_at far.tickets key (Some t) a ≡ Some x
          → set_at far.tickets key (Some t) b ≡ Some y → set_at far.numbers key asks a ≡ set_at far.numbers key asks b → a ≡ b
      apart a b x y (inl p) (inl q) e f same = sym p ∙ q
      apart a b x y (inl p) (inr q) e f same = let lt = less b q y f in let n = is_new a p in absurd (omega arith)
      apart a b x y (inr p) (inl q) e f same = let lt = less a p x e in let n = is_new b q in absurd (omega arith)
      apart a b x y (inr p) (inr q) e f same = s.apart a b x y (sym (set_other far.tickets key (Some t) a p) ∙ e)
          (sym (set_other far.tickets key (Some t) b q) ∙ f) (sym (set_other far.numbers key asks a p) ∙ same ∙ set_other far.numbers key asks b q)

-- A node's server, which a stranger asked.

-- an entry with a reply stays so
reply_stays : (old new : State) → StateStays old new → HasReply old → HasReply new
reply_stays (State.SegmentedRequest inc since) new h r = absurd r
reply_stays (Done kept) new h r = subst HasReply (sym h) tt
reply_stays (SegmentedResponse out transfer since) (SegmentedResponse next other at) h r = tt
reply_stays (SegmentedResponse out transfer since) _ h r = absurd h
reply_stays Dropped new h r = absurd r

has_reply : (c : Context) (choice : ℕ) (p : Reply) (st : State) → KeepsReply c choice p st → HasReply st
has_reply c choice p (State.SegmentedRequest inc since) h = absurd h
has_reply c choice p (Done kept) h = tt
has_reply c choice p (SegmentedResponse out transfer since) h = tt
has_reply c choice p Dropped h = absurd h

-- a live entry stays
stays_past : (shows : ℕ) (e d : ServerTransaction) → d.begin ≡ e.begin → StateStays e.state d.state → IsPast shows e → IsPast shows d
stays_past shows e d is st (inl lt) = inl (omega arith)
stays_past shows e d is st (inr r) = inr (reply_stays e.state d.state st r)

stays_spaced : (shows : ℕ) (e : ServerTransaction) (o : Option ServerTransaction) → StaysIn e o → (b : ℕ) → Spaced shows (Some e) b → Spaced shows o b
stays_spaced shows e None h b sp = absurd h
stays_spaced shows e (Some d) h b (inl lt) = inl (let is = h.0.begin in omega arith)
stays_spaced shows e (Some d) h b (inr k) = inr (k.0 ∙ sym h.0.begin, stays_past shows e d h.0.begin h.1 k.1)

-- where it is dead, the next one is it, or begins more than KEEP later
dead_spaced : (shows : ℕ) (e : ServerTransaction) (o : Option ServerTransaction) → e.begin + KEEP < shows → IsThere o
    → BeginIs (λ m. (m ≡ e.begin) ⊎ (e.begin + KEEP < m)) o → (b : ℕ) → Spaced shows (Some e) b → Spaced shows o b
dead_spaced shows e None dead there h b sp = absurd there
dead_spaced shows e (Some d) dead there (inl is) b (inl lt) = inl (omega arith)
dead_spaced shows e (Some d) dead there (inl is) b (inr k) = inr (k.0 ∙ sym is, inl (omega arith))
dead_spaced shows e (Some d) dead there (inr late) b (inl lt) = inl (omega arith)
dead_spaced shows e (Some d) dead there (inr late) b (inr k) = inl (let is = k.0 in omega arith)

module _ (c : Context) (service : Service) (free : Bool) (a : Apdu) where
  -- what an APDU makes of it
  gets_spaced : (o : Option ServerTransaction) (b : ℕ) → Spaced c.now o b → Spaced c.now (server.server_on_apdu c service o free a).entry b
  gets_spaced None b sp = absurd sp
  gets_spaced (Some e) b sp = go (is_live c.now e) refl
    where
      go : (z : Bool) → is_live c.now e ≡ z → Spaced c.now (server.server_on_apdu c service (Some e) free a).entry b
      go true live = stays_spaced c.now e (server.server_on_apdu c service (Some e) free a).entry (live_stays c service e free a live) b sp
      go false dead =
          let over : e.begin + KEEP < c.now = grind (arith, nat_tests) in
          dead_spaced c.now e (server.server_on_apdu c service (Some e) free a).entry over (gets_there c service e free a)
          (gets_begin c service (λ m. (m ≡ e.begin) ⊎ (e.begin + KEEP < m)) (Some e) (inl refl) free (λ room. inr over) a) b sp

  -- what was performed before was so of entries that began more than KEEP before this one's
  apart_from : (o : Option ServerTransaction) (d : ServerTransaction) → MayPerform c.now o → IsEntryFor c.now (live_entry c.now o) a d → (b : ℕ)
      → Spaced c.now o b → b + KEEP < d.begin
  apart_from None d may for b sp = absurd sp
  apart_from (Some e) d may for b sp = go (is_live c.now e) refl may for sp
    where
      go : (z : Bool) → is_live c.now e ≡ z → (is_live c.now e ≡ false) ⊎ IsSegmentedRequest e.state
          → IsEntryFor c.now (if z then Some e else None) a d → Spaced c.now (Some e) b → b + KEEP < d.begin
      go true live (inl dead) for sp = absurd cc
      go true live (inr receiving) for (inl lt) = let is = for.begin in omega arith
      go true live (inr receiving) for (inr k) = past k.1
        where
          none : (st : State) → IsSegmentedRequest st → HasReply st → ⊥
          none (State.SegmentedRequest inc since) h r = r
          none (Done kept) h r = h
          none (SegmentedResponse out transfer since) h r = h
          none Dropped h r = h

          past : IsPast c.now e → b + KEEP < d.begin
          past (inl lt) = absurd (let le : c.now ≤ e.begin + KEEP = grind (arith, nat_tests) in omega arith)
          past (inr r) = absurd (none e.state receiving r)
      go false dead may for (inl lt) = let is = for.begin in let over : e.begin + KEEP < c.now = grind (arith, nat_tests) in omega arith
      go false dead may for (inr k) =
          let is = for.begin in let same = k.0 in let over : e.begin + KEEP < c.now = grind (arith, nat_tests) in omega arith

-- the server's entry, and what it performs
module _ (clocks : ℕ → Clock) (opens : ℕ → ℕ) (far : Strangers) (log : List Fact) (s : AwayIn clocks opens far log) (key : Key) where
  -- an entry that performs nothing
  pub away_rests : (o : Option ServerTransaction) → BeginIs (IsIn (clocks key.server).shows (opens key.server)) o
      → ((b : ℕ) → Spaced (clocks key.server).shows (far.entries key) b → Spaced (clocks key.server).shows o b)
      → AwayIn clocks opens (record far { entries = set_at far.entries key o }) log
  away_rests o begun spaced = record { each = λ k. each k (decide_key key k); apart = s.apart; spaced = s.spaced }
    where
      here : IsAt (clocks key.server).shows (opens key.server) key (far.numbers key) (far.tickets key) o log
      here = record {
        ticket_fits = (s.each key).ticket_fits;
        begun = begun;
        past = λ b r p h. let old = (s.each key).past b r p h in (old.0, spaced b old.1);
      }

      each : (k : Key) → ((key ≡ k) ⊎ (key ≡ k → ⊥))
          → IsAt (clocks k.server).shows (opens k.server) k (far.numbers k) (far.tickets k) (set_at far.entries key o k) log
      each k (inl is) = subst (λ (j : Key). IsAt (clocks j.server).shows (opens j.server) j (far.numbers j) (far.tickets j) (set_at far.entries key o j) log) is
          (subst (λ (x : Option ServerTransaction). IsAt (clocks key.server).shows (opens key.server) key (far.numbers key) (far.tickets key) x log)
          (sym (set_same far.entries key o)) here)
      each k (inr ne) = subst (λ (x : Option ServerTransaction). IsAt (clocks k.server).shows (opens k.server) k (far.numbers k) (far.tickets k) x log)
          (sym (set_other far.entries key o k ne)) (s.each k)

  -- one that performs
  pub away_performs : (d : ServerTransaction) (x : Effect) → IsIn (clocks key.server).shows (opens key.server) d.begin → HasReply d.state
      → ((b : ℕ) → Spaced (clocks key.server).shows (far.entries key) b → b + KEEP < d.begin)
      → AwayIn clocks opens (record far { entries = set_at far.entries key (Some d) })
      (Served key.client key.server key.invoke_id d.begin x.request x.reply ∷ log)
  away_performs d x begun reply late = record {
    each = λ k. each k (decide_key key k);
    apart = s.apart;
    spaced = (λ a r p h. late a ((s.each key).past a r p h).1, s.spaced);
  }
    where
      f : Fact
      f = Served key.client key.server key.invoke_id d.begin x.request x.reply

      ticket_so : (k : Key) (o : Option ClientTransaction) → TicketFits (far.numbers k) o log → TicketFits (far.numbers k) o (f ∷ log)
      ticket_so k None h = tt
      ticket_so k (Some t) h = ((h.0.0, h.0.1, h.0.2, inr h.0.3), λ idle. h.1 idle)

      past : Each key (λ b. (opens key.server ≤ b) × Spaced (clocks key.server).shows (Some d) b) (f ∷ log)
      past b r p (inl e) = let is : d.begin ≡ b = cc in let from = begun.0 in (omega arith, inr (sym is, inr reply))
      past b r p (inr h) = let old = (s.each key).past b r p h in (old.0, inl (late b old.1))

      here : IsAt (clocks key.server).shows (opens key.server) key (far.numbers key) (far.tickets key) (Some d) (f ∷ log)
      here = record { ticket_fits = ticket_so key (far.tickets key) (s.each key).ticket_fits; begun = begun; past = past }

      other : (k : Key) → (key ≡ k → ⊥)
          → Each k (λ b. (opens k.server ≤ b) × Spaced (clocks k.server).shows (far.entries k) b) (f ∷ log)
      other k ne b r p (inl e) = absurd (ne (key_is key k (cc) (cc) (cc)))
      other k ne b r p (inr h) = (s.each k).past b r p h

      there : (k : Key) → (key ≡ k → ⊥) → IsAt (clocks k.server).shows (opens k.server) k (far.numbers k) (far.tickets k) (far.entries k) (f ∷ log)
      there k ne = record { ticket_fits = ticket_so k (far.tickets k) (s.each k).ticket_fits; begun = (s.each k).begun; past = other k ne }

      each : (k : Key) → ((key ≡ k) ⊎ (key ≡ k → ⊥))
          → IsAt (clocks k.server).shows (opens k.server) k (far.numbers k) (far.tickets k) (set_at far.entries key (Some d) k) (f ∷ log)
      each k (inl is) = subst (λ (j : Key). IsAt (clocks j.server).shows (opens j.server) j (far.numbers j) (far.tickets j) (set_at far.entries key (Some d) j)
          (f ∷ log)) is
          (subst (λ (z : Option ServerTransaction). IsAt (clocks key.server).shows (opens key.server) key (far.numbers key) (far.tickets key) z (f ∷ log))
          (sym (set_same far.entries key (Some d))) here)
      each k (inr ne) = subst (λ (z : Option ServerTransaction). IsAt (clocks k.server).shows (opens k.server) k (far.numbers k) (far.tickets k) z (f ∷ log))
          (sym (set_other far.entries key (Some d) k ne)) (there k ne)

-- a stranger's APDU
pub away_gets : (n : Net) → Away n → (key : Key) (c : Context) → c.now ≡ server_now n key → (service : Service) (free : Bool)
    → (free ≡ true → n.serves_from key.server ≤ server_now n key) → (a : Apdu)
    → Away (server_acts_away n key (server.server_on_apdu c service (n.far.entries key) free a))
away_gets n s key c now service free unwaited a = go v.effect refl
  where
    v : server.Reaction
    v = server.server_on_apdu c service (n.far.entries key) free a

    opens : ℕ
    opens = n.serves_from key.server

    begun : BeginIs (IsIn (server_now n key) opens) v.entry
    begun = gets_begin c service (IsIn (server_now n key) opens) (n.far.entries key) (s.each key).begun free
        (λ room. let le = unwaited room in (omega arith, omega arith)) a

    at_now : (o : Option ServerTransaction) (b : ℕ) → Spaced (server_now n key) o b → Spaced c.now o b
    at_now o b sp = subst (λ (m : ℕ). Spaced m o b) (sym now) sp

    spaced : (b : ℕ) → Spaced (server_now n key) (n.far.entries key) b → Spaced (server_now n key) v.entry b
    spaced b sp = subst (λ (m : ℕ). Spaced m v.entry b) now (gets_spaced c service free a (n.far.entries key) b (at_now (n.far.entries key) b sp))

    go : (o : Option Effect) → v.effect ≡ o
        → AwayIn n.server_clocks n.serves_from (record n.far { entries = set_at n.far.entries key v.entry }) (served key (begin_of v.entry) o n.log)
    go None is = away_rests n.server_clocks n.serves_from n.far n.log s key v.entry begun spaced
    go (Some x) is =
        let k = effects_are_kept.gets c service (n.far.entries key) free a x is in
        subst (λ (z : Option ServerTransaction). AwayIn n.server_clocks n.serves_from (record n.far { entries = set_at n.far.entries key z })
        (served key (begin_of z) (Some x) n.log)) (sym k.after)
        (away_performs n.server_clocks n.serves_from n.far n.log s key k.entry x
        (subst (λ (z : Option ServerTransaction). BeginIs (IsIn (server_now n key) opens) z) k.after begun)
        (has_reply c k.entry.choice x.reply k.entry.state k.kept)
        (λ b sp. apart_from c service free a (n.far.entries key) k.entry k.before k.for b (at_now (n.far.entries key) b sp)))

-- a tick
pub away_ticks : (n : Net) → Away n → (key : Key) (c : Context) → Away (server_acts_away n key (server.server_ticks c (n.far.entries key)))
away_ticks n s key c = subst (λ (o : Option Effect). AwayIn n.server_clocks n.serves_from (record n.far { entries = set_at n.far.entries key v.entry })
    (served key (begin_of v.entry) o n.log)) (sym (effects_are_kept.ticks c (n.far.entries key)))
    (away_rests n.server_clocks n.serves_from n.far n.log s key v.entry (begun (n.far.entries key) (s.each key).begun) (λ b sp. spaced (n.far.entries key) b sp))
  where
    v : server.Reaction
    v = server.server_ticks c (n.far.entries key)

    begun : (o : Option ServerTransaction) → BeginIs (IsIn (server_now n key) (n.serves_from key.server)) o
        → BeginIs (IsIn (server_now n key) (n.serves_from key.server)) (server.server_ticks c o).entry
    begun o h = ticks_begin c (IsIn (server_now n key) (n.serves_from key.server)) o h

    spaced : (o : Option ServerTransaction) (b : ℕ) → Spaced (server_now n key) o b → Spaced (server_now n key) (server.server_ticks c o).entry b
    spaced None b sp = absurd sp
    spaced (Some e) b sp = stays_spaced (server_now n key) e (server.server_ticks c (Some e)).entry (ticks_stay c e) b sp

-- Time and restarts.

pub away_later : (n : Net) (by : ℕ) (clients servers : ℕ → ℕ) → Calm n → Away n → Away (passes n by clients servers)
away_later n by clients servers calm s = record { each = each; apart = s.apart; spaced = s.spaced }
  where
    on : (key : Key) → server_now n key ≤ (goes_on n.pace by (servers key.server) (n.server_clocks key.server)).shows
    on key = shows_on n.pace (calm key).timely.some by (servers key.server) (n.server_clocks key.server) (calm key).server

    begun : (p q opens : ℕ) → p ≤ q → (o : Option ServerTransaction) → BeginIs (IsIn p opens) o → BeginIs (IsIn q opens) o
    begun p q opens le None h = tt
    begun p q opens le (Some e) h = (h.0, let old = h.1 in omega arith)

    spaced : (p q : ℕ) → p ≤ q → (o : Option ServerTransaction) (b : ℕ) → Spaced p o b → Spaced q o b
    spaced p q le None b h = absurd h
    spaced p q le (Some e) b (inl lt) = inl lt
    spaced p q le (Some e) b (inr k) = inr (k.0, past k.1)
      where
        past : IsPast p e → IsPast q e
        past (inl lt) = inl (omega arith)
        past (inr r) = inr r

    each : (key : Key) → IsAt (goes_on n.pace by (servers key.server) (n.server_clocks key.server)).shows (n.serves_from key.server) key (n.far.numbers key)
        (n.far.tickets key) (n.far.entries key) n.log
    each key = record {
      ticket_fits = (s.each key).ticket_fits;
      begun = begun (server_now n key) (goes_on n.pace by (servers key.server) (n.server_clocks key.server)).shows (n.serves_from key.server) (on key)
          (n.far.entries key) (s.each key).begun;
      past = λ b r p h.
          let old = (s.each key).past b r p h in
          (old.0, spaced (server_now n key) (goes_on n.pace by (servers key.server) (n.server_clocks key.server)).shows (on key) (n.far.entries key) b old.1);
    }

-- a restart: what was performed before it is of an earlier clock
pub away_server_restarted : (n : Net) (node exact : ℕ) (store : Option Octets) → Away n → Away (server_restarted n node exact store)
away_server_restarted n node exact store s = record {
  each = λ key. each key (nat_eq key.server node) refl;
  apart = s.apart;
  spaced = s.spaced;
}
  where
    old : AwayIn n.server_clocks n.serves_from n.far (Restarted node store ∷ n.log)
    old = away_more n.server_clocks n.serves_from n.far (Restarted node store) n.log tt s

    each : (key : Key) (b : Bool) → nat_eq key.server node ≡ b
        → IsAt (if b then clock_at n.pace exact else n.server_clocks key.server).shows
        (if b then (clock_at n.pace exact).shows + KEEP + 1 else n.serves_from key.server) key
        (n.far.numbers key) (n.far.tickets key) (if b then None else n.far.entries key) (Restarted node store ∷ n.log)
    each key true is = record {
      ticket_fits = (old.each key).ticket_fits;
      begun = tt;
      past = λ b r p h. absurd (h.0 (grind (arith, nat_tests)));
    }
    each key false is = old.each key

-- a server begins: strangers had nothing of it
pub away_server_begins : (n : Net) (node exact : ℕ) → IsUnserved n.entries n.far.entries n.serves_from node → Away n → Away (server_begun n node exact)
away_server_begins n node exact unserved s = record { each = λ key. each key (nat_eq key.server node) refl; apart = s.apart; spaced = s.spaced }
  where
    anew : (key : Key) → n.far.entries key ≡ None → (o : Option ServerTransaction) → n.far.entries key ≡ o
        → IsAt (clock_at n.pace exact).shows (n.serves_from key.server) key (n.far.numbers key) (n.far.tickets key) o n.log
    anew key nil (Some e) at = absurd cc
    anew key nil None at = record {
      ticket_fits = (s.each key).ticket_fits;
      begun = tt;
      past = λ b r p h. absurd (subst (λ (o : Option ServerTransaction). Spaced (server_now n key) o b) nil ((s.each key).past b r p h).1);
    }

    each : (key : Key) (b : Bool) → nat_eq key.server node ≡ b
        → IsAt (if b then clock_at n.pace exact else n.server_clocks key.server).shows (n.serves_from key.server) key (n.far.numbers key) (n.far.tickets key)
        (n.far.entries key) n.log
    each key true is = anew key (unserved.away key (grind (arith, nat_tests))) (n.far.entries key) refl
    each key false is = s.each key

-- a client's tickets are lost
module _ (n : Net) (node : ℕ) (s : Away n) where
  pub away_lost : AwayIn n.server_clocks n.serves_from (record n.far { tickets = λ key. if nat_eq key.client node then None else n.far.tickets key }) n.log
  away_lost = record { each = λ key. each key (nat_eq key.client node); apart = apart; spaced = s.spaced }
    where
      each : (key : Key) (b : Bool) → IsAt (n.server_clocks key.server).shows (n.serves_from key.server) key
          (n.far.numbers key) (if b then None else n.far.tickets key) (n.far.entries key) n.log
      each key true = record { ticket_fits = tt; begun = (s.each key).begun; past = (s.each key).past }
      each key false = s.each key

      there : (o : Option ClientTransaction) (b : Bool) (x : ClientTransaction) → (if b then None else o) ≡ Some x → o ≡ Some x
      there o true x at = absurd cc
      there o false x at = at

      apart : (a b : Key) (x y : ClientTransaction) → (if nat_eq a.client node then None else n.far.tickets a) ≡ Some x
          → (if nat_eq b.client node then None else n.far.tickets b) ≡ Some y → n.far.numbers a ≡ n.far.numbers b → a ≡ b
      apart a b x y at at' same = s.apart a b x y (there (n.far.tickets a) (nat_eq a.client node) x at) (there (n.far.tickets b) (nat_eq b.client node) y at') same

pub away_starts : (clocks : ℕ → Clock) → AwayIn clocks (λ node. 0) (record { numbers = λ key. 0; tickets = λ key. None; entries = λ key. None }) []
away_starts clocks = record {
  each = λ key. record { ticket_fits = tt; begun = tt; past = λ b r p h. absurd h };
  apart = λ a b x y at at' same. absurd cc;
  spaced = tt;
}

-- what is claimed of it
pub served_apart : (n : Net) → Away n → AreServedApart n
served_apart n s = record {
  spaced = s.spaced;
  waited = λ q i id b r p h. ((s.each (record { client = q; server = i; invoke_id = id })).past b r p h).0;
}
