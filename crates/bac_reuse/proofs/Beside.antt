-- A net in which servers let invoke IDs be used again, beside one in which they don't: what both have in common. Both have the same tickets and times. Where
-- the one server answered a read that it performed, the other sent an Abort; where both hold an entry that counts for an ask that is no such read, it is the
-- same.
use Rattle.std.proofs.Common.{◌≡◌, ℕ, zero, suc, ◌-◌, ◌≤◌, ◌≢◌, ◌⊎◌, Bool, true, false, ◌&&◌, List, [], ◌∷◌, ◌++◌, map, Option, Some, None}
use Rattle.std.proofs.Common.{slice_get, if◌then◌else◌, nat_eq, refl, ap, sym, subst, inl, inr, ◌∙◌, arith}
use Rattle.std.proofs.lemmas.Bool.Decides.{nat_tests}
use Rattle.bac_apdu.specs.Apdu.{Apdu}
use Rattle.bac_apdu.specs.Apdu.Apdu.{Abort, ComplexAck, Error, Reject, SimpleAck}
use Rattle.bac_protocol.specs.Service.{Ending, OTHER, Reply as reply, Request}
use Rattle.bac_protocol.specs.Wire.{Each}
use Rattle.bac_protocol.specs.Client as client
use Rattle.bac_protocol.specs.Client.{Ask, ClientTransaction, after, is_idle, request_of}
use Rattle.bac_protocol.specs.Client.Reaction.{Ends, GoesOn, Repeats, Stays}
use Rattle.bac_protocol.specs.Context.{Context}
use Rattle.bac_protocol.specs.Server.{Effect, ServerTransaction, State, reply_apdu}
use Rattle.bac_protocol.specs.Log.{Fact, Has, IsUnended, IsUnendedAway, IsUnperformed, MayEnd, asks_in}
use Rattle.bac_protocol.specs.Service.Ending.{Aborted, Answered, Expired, Rejected, TimedOut}
use Rattle.bac_protocol.specs.Log.Fact.{Asked, AskedAway, Changed, Ended, EndedAway, Performed, Restarted, Served}
use Rattle.bac_protocol.specs.Transaction.{Key, ended, ended_away, performed, served}
use Rattle.bac_protocol.specs.World.{Net, Post, count_of, later, post_of, same_key, set_at}
use Rattle.bac_protocol.proofs.Facts.{Grows}
use Rattle.bac_protocol.proofs.Keys.{decide_key, set_other, set_same}
use Rattle.bac_reuse.specs.Runs.{Reusing}
use Rattle.bac_reuse.proofs.Clients.{AbortsIf, IsAnswer}
use Rattle.bac_reuse.proofs.FreshReads.{IsFromServer, IsGivenBy}
use Rattle.bac_reuse.proofs.Machine.{EntryIs, IsFor, IsGiving, IsGone, OverIf}
use Rattle.bac_reuse.proofs.NetSteps.{aborts}

-- what the net has of its own
pub record Own : Type 0 where
  pub entries : Key → Option ServerTransaction
  pub posts : List Post
  pub log : List Fact
  pub pieces : Key → ℕ
  pub far_entries : Key → Option ServerTransaction  -- of strangers

-- all else is the other's
abbrev pub over : Net → Own → Net
over n g = record n { entries = g.entries; posts = g.posts; log = g.log; pieces = g.pieces; far = record (n.far) { entries = g.far_entries } }

-- Tables.

pub set_keeps : {A : Type 0} (f : Key → A) (key : Key) (a : A) (F : Key → A → Type 0) (k : Key) → F k (f k) → (F key (f key) → F key a) → F k (set_at f key a k)
set_keeps f key a F k h step = go (decide_key key k)
  where
    go : ((key ≡ k) ⊎ (key ≡ k → ⊥)) → F k (set_at f key a k)
    go (inl is) = subst (λ (j : Key). F j (set_at f key a j)) is
        (subst (F key) (sym (set_same f key a)) (step (subst (λ (j : Key). F j (f j)) (sym is) h)))
    go (inr ne) = subst (F k) (sym (set_other f key a k ne)) h

-- Entries.

-- a read in one APDU, of a server that lets invoke IDs be used again
abbrev pub is_fresh : Reusing → Key → Ask → Bool
is_fresh u key ask = u.reuses key.server && (u.reads ask.choice && ask.whole)

pub record IsFresh (u : Reusing) (key : Key) (ask : Ask) : Type 0 where
  pub reuses : u.reuses key.server ≡ true
  pub read : u.reads ask.choice ≡ true
  pub whole : ask.whole ≡ true

pub fresh_is : (u : Reusing) (key : Key) (ask : Ask) → is_fresh u key ask ≡ true → IsFresh u key ask
fresh_is u key ask is = go (u.reuses key.server) (u.reads ask.choice) ask.whole refl refl refl is
  where
    go : (a b c : Bool) → u.reuses key.server ≡ a → u.reads ask.choice ≡ b → ask.whole ≡ c → (a && (b && c)) ≡ true → IsFresh u key ask
    go true true true e f g is = record { reuses = e; read = f; whole = g }
    go true true false e f g is = absurd (let no : false ≡ true = is in cc)
    go true false c e f g is = absurd (let no : false ≡ true = is in cc)
    go false b c e f g is = absurd (let no : false ≡ true = is in cc)

pub not_fresh : (u : Reusing) (key : Key) (ask : Ask) → is_fresh u key ask ≡ false
    → (u.reuses key.server ≡ false) ⊎ ((u.reads ask.choice ≡ false) ⊎ (ask.whole ≡ false))
not_fresh u key ask is = go (u.reuses key.server) (u.reads ask.choice) ask.whole refl refl refl is
  where
    go : (a b c : Bool) → u.reuses key.server ≡ a → u.reads ask.choice ≡ b → ask.whole ≡ c → (a && (b && c)) ≡ false
        → (u.reuses key.server ≡ false) ⊎ ((u.reads ask.choice ≡ false) ⊎ (ask.whole ≡ false))
    go true true true e f g is = absurd (let no : true ≡ false = is in cc)
    go true true false e f g is = inr (inr g)
    go true false c e f g is = inr (inl f)
    go false b c e f g is = inl e

-- what an entry that both have keeps of its ask
abbrev pub Holds : (fresh idle : Bool) → Ask → ServerTransaction → Type 0
Holds true idle ask e = IsGiving e.state × OverIf (idle ≡ true) e.state
Holds false idle ask e = IsFor ask e

-- what is left of the other's entry, whose ticket has ended: nothing, or one that began when it did
abbrev pub IsLeftOf : ServerTransaction → Option ServerTransaction → Type 0
IsLeftOf e None = Unit {0}
IsLeftOf e (Some d) = (d.begin ≡ e.begin) × IsGiving d.state

abbrev pub AreGone : (now : ℕ) → (ours theirs : Option ServerTransaction) → Type 0
AreGone now ours theirs = IsGone now ours × IsGone now theirs

abbrev pub AreSame : Bool → Bool → Ask → (ours theirs : Option ServerTransaction) → Type 0
AreSame fresh idle ask ours theirs = (ours ≡ theirs) × EntryIs (Holds fresh idle ask) theirs

abbrev pub AreApart : Bool → Bool → (ours theirs : Option ServerTransaction) → Type 0
AreApart fresh idle ours theirs = (fresh ≡ true) × (idle ≡ true) × EntryIs (λ e. IsLeftOf e ours) theirs

abbrev pub FitOf : (now : ℕ) (fresh idle : Bool) → Ask → (ours theirs : Option ServerTransaction) → Type 0
FitOf now fresh idle ask ours theirs = AreGone now ours theirs ⊎ (AreSame fresh idle ask ours theirs ⊎ AreApart fresh idle ours theirs)

abbrev pub Fit : Reusing → Key → (now : ℕ) → Option ClientTransaction → (ours theirs : Option ServerTransaction) → Type 0
Fit u key now None ours theirs = AreGone now ours theirs
Fit u key now (Some t) ours theirs = FitOf now (is_fresh u key t.ask) (is_idle t.phase) t.ask ours theirs

-- Tickets go on.

pub after_ask : (now : ℕ) (t : ClientTransaction) (r : client.Reaction) → (after now t r).ask ≡ t.ask
after_ask now t Stays = refl
after_ask now t (GoesOn phase sends) = refl
after_ask now t (Repeats phase sends) = refl
after_ask now t (Ends sends how) = refl

pub after_idle : (now : ℕ) (t : ClientTransaction) (r : client.Reaction) → (is_idle t.phase ≡ true → r ≡ Stays) → is_idle t.phase ≡ true
    → is_idle (after now t r).phase ≡ true
after_idle now t r silent idle = subst (λ (q : client.Reaction). is_idle (after now t q).phase ≡ true) (sym (silent idle)) idle

over_idle : (idle next : Bool) → (idle ≡ true → next ≡ true) → (st : State) → OverIf (idle ≡ true) st → OverIf (next ≡ true) st
over_idle idle next on (State.SegmentedRequest inc since) h = tt
over_idle idle next on (State.Done kept) h = tt
over_idle idle next on (State.SegmentedResponse out transfer since) h = λ is. on (h is)
over_idle idle next on State.Dropped h = tt

holds_on : (fresh idle next : Bool) (ask : Ask) → (idle ≡ true → next ≡ true) → (o : Option ServerTransaction) → EntryIs (Holds fresh idle ask) o
    → EntryIs (Holds fresh next ask) o
holds_on fresh idle next ask on None h = absurd h
holds_on true idle next ask on (Some e) h = (h.0, over_idle idle next on e.state h.1)
holds_on false idle next ask on (Some e) h = h

fit_of_on : (now : ℕ) (fresh idle next : Bool) (ask : Ask) → (idle ≡ true → next ≡ true) → (ours theirs : Option ServerTransaction)
    → FitOf now fresh idle ask ours theirs → FitOf now fresh next ask ours theirs
fit_of_on now fresh idle next ask on ours theirs (inl h) = inl h
fit_of_on now fresh idle next ask on ours theirs (inr (inl h)) = inr (inl (h.0, holds_on fresh idle next ask on theirs h.1))
fit_of_on now fresh idle next ask on ours theirs (inr (inr h)) = inr (inr (h.0, on h.1, h.2))

pub fit_on : (u : Reusing) (key : Key) (now : ℕ) (t d : ClientTransaction) → d.ask ≡ t.ask → (is_idle t.phase ≡ true → is_idle d.phase ≡ true)
    → (ours theirs : Option ServerTransaction) → Fit u key now (Some t) ours theirs → Fit u key now (Some d) ours theirs
fit_on u key now t d same on ours theirs h = subst (λ (a : Ask). FitOf now (is_fresh u key a) (is_idle d.phase) a ours theirs) (sym same)
    (fit_of_on now (is_fresh u key t.ask) (is_idle t.phase) (is_idle d.phase) t.ask on ours theirs h)

gone_on : (now next : ℕ) → now ≤ next → (o : Option ServerTransaction) → IsGone now o → IsGone next o
gone_on now next le None h = tt
gone_on now next le (Some e) h = omega (arith, le, h)

-- the server's clock goes on
pub fit_later : (u : Reusing) (key : Key) (now next : ℕ) → now ≤ next → (o : Option ClientTransaction) (ours theirs : Option ServerTransaction)
    → Fit u key now o ours theirs → Fit u key next o ours theirs
fit_later u key now next le None ours theirs h = (gone_on now next le ours h.0, gone_on now next le theirs h.1)
fit_later u key now next le (Some t) ours theirs (inl h) = inl (gone_on now next le ours h.0, gone_on now next le theirs h.1)
fit_later u key now next le (Some t) ours theirs (inr h) = inr h

-- both have none
pub fit_none : (u : Reusing) (key : Key) (now : ℕ) (o : Option ClientTransaction) → Fit u key now o None None
fit_none u key now None = (tt, tt)
fit_none u key now (Some t) = inl (tt, tt)

-- where the other's is dead, both are
pub gone_both : (u : Reusing) (key : Key) (now : ℕ) (o : Option ClientTransaction) (ours theirs : Option ServerTransaction) → IsGone now theirs
    → Fit u key now o ours theirs → AreGone now ours theirs
gone_both u key now None ours theirs gone h = h
gone_both u key now (Some t) ours theirs gone (inl h) = h
gone_both u key now (Some t) ours theirs gone (inr (inl h)) = (subst (IsGone now) (sym h.0) gone, gone)
gone_both u key now (Some t) ours None gone (inr (inr h)) = absurd h.2
gone_both u key now (Some t) None (Some e) gone (inr (inr h)) = (tt, gone)
gone_both u key now (Some t) (Some d) (Some e) gone (inr (inr h)) = (let same = h.2.0 in omega (arith, gone), gone)

-- Posts.

-- the other net's list of posts, post for post
abbrev pub AreLike : (Post → Post → Type 0) → List Post → List Post → Type 0
AreLike P [] [] = Unit {0}
AreLike P [] (q ∷ qs) = ⊥
AreLike P (p ∷ ps) [] = ⊥
AreLike P (p ∷ ps) (q ∷ qs) = P p q × AreLike P ps qs

pub likes_map : (P Q : Post → Post → Type 0) (ps qs : List Post) → ((n : ℕ) (p q : Post) → slice_get qs n ≡ Some q → P p q → Q p q) → AreLike P ps qs
    → AreLike Q ps qs
likes_map P Q [] [] f h = tt
likes_map P Q [] (q ∷ qs) f h = absurd h
likes_map P Q (p ∷ ps) [] f h = absurd h
likes_map P Q (p ∷ ps) (q ∷ qs) f h = (f 0 p q refl h.0, likes_map P Q ps qs (λ n a b at. f (suc n) a b at) h.1)

pub likes_join : (P : Post → Post → Type 0) (ps qs rs ts : List Post) → AreLike P ps qs → AreLike P rs ts → AreLike P (ps ++ rs) (qs ++ ts)
likes_join P [] [] rs ts h k = k
likes_join P [] (q ∷ qs) rs ts h k = absurd h
likes_join P (p ∷ ps) [] rs ts h k = absurd h
likes_join P (p ∷ ps) (q ∷ qs) rs ts h k = (h.0, likes_join P ps qs rs ts h.1 k)

pub like_at : (P : Post → Post → Type 0) (ps qs : List Post) (n : ℕ) (p : Post) → AreLike P ps qs → slice_get ps n ≡ Some p
    → (q : Post) × (slice_get qs n ≡ Some q) × P p q
like_at P [] [] n p h at = absurd cc
like_at P [] (q ∷ qs) n p h at = absurd h
like_at P (a ∷ ps) [] n p h at = absurd h
like_at P (a ∷ ps) (q ∷ qs) zero p h at = let same : a ≡ p = cc in (q, refl, subst (λ (x : Post). P x q) same h.0)
like_at P (a ∷ ps) (q ∷ qs) (suc n) p h at = like_at P ps qs n p h.1 at

likes_count : (P : Post → Post → Type 0) → ((p q : Post) → P p q → q.key ≡ p.key) → (key : Key) (ps qs : List Post) → AreLike P ps qs
    → count_of key qs ≡ count_of key ps
likes_count P f key [] [] h = refl
likes_count P f key [] (q ∷ qs) h = absurd h
likes_count P f key (p ∷ ps) [] h = absurd h
likes_count P f key (p ∷ ps) (q ∷ qs) h =
    ap (λ (k : Key). if same_key k key then suc (count_of key qs) else count_of key qs) (f p q h.0)
    ∙ ap (λ n. if same_key p.key key then suc n else n) (likes_count P f key ps qs h.1)

-- as many are later in both
pub likes_later : (P : Post → Post → Type 0) → ((p q : Post) → P p q → q.key ≡ p.key) → (key : Key) (n : ℕ) (ps qs : List Post) → AreLike P ps qs
    → later key n qs ≡ later key n ps
likes_later P f key n [] [] h = refl
likes_later P f key n [] (q ∷ qs) h = absurd h
likes_later P f key n (p ∷ ps) [] h = absurd h
likes_later P f key zero (p ∷ ps) (q ∷ qs) h = likes_count P f key ps qs h.1
likes_later P f key (suc n) (p ∷ ps) (q ∷ qs) h = likes_later P f key n ps qs h.1

-- what is sent in both
pub likes_same : (P : Post → Post → Type 0) (key : Key) (now : ℕ) (sends : List Apdu) → Each (λ a. P (post_of key now a) (post_of key now a)) sends
    → AreLike P (map (post_of key now) sends) (map (post_of key now) sends)
likes_same P key now [] h = tt
likes_same P key now (a ∷ more) h = (h.0, likes_same P key now more h.1)

-- what is sent in the place of Aborts
pub likes_aborts : (P : Post → Post → Type 0) (key : Key) (now : ℕ) (sends : List Apdu)
    → Each (λ a. P (post_of key now a) (post_of key now (Abort true key.invoke_id OTHER))) sends
    → AreLike P (map (post_of key now) sends) (map (post_of key now) (aborts key.invoke_id sends))
likes_aborts P key now [] h = tt
likes_aborts P key now (a ∷ more) h = (h.0, likes_aborts P key now more h.1)

-- the post with an Abort
abbrev pub aborted : Post → Post
aborted p = record { key = p.key; copy = record { moment = p.copy.moment; apdu = Abort true p.key.invoke_id OTHER } }

abbrev pub IsYoung : Net → Post → Type 0
IsYoung n p = n.now - p.copy.moment ≤ n.pace.life

-- a client's Abort comes of a ticket that has ended
abbrev pub AbortsOf : Option ClientTransaction → Apdu → Type 0
AbortsOf None a = Unit {0}
AbortsOf (Some t) a = AbortsIf (is_idle t.phase) a

-- in the place of an Abort stands an answer of one APDU, or what comes to a ticket that has ended
abbrev pub IsForeign : (number : ℕ) → Option ClientTransaction → List Fact → Apdu → Type 0
IsForeign number None log a = Unit {0}
IsForeign number (Some t) log a = (is_idle t.phase ≡ true) ⊎ IsAnswer number t.ask log a

abbrev pub IsLike : (n : Net) → (log : List Fact) → Post → Post → Type 0
IsLike n log p q = ((q ≡ p) × (IsYoung n p → AbortsOf (n.tickets p.key) p.copy.apdu))
    ⊎ ((q ≡ aborted p) × IsFromServer p.copy.apdu × (IsYoung n p → IsForeign (n.numbers p.key) (n.tickets p.key) log p.copy.apdu))

pub like_key : (n : Net) (log : List Fact) (p q : Post) → IsLike n log p q → q.key ≡ p.key
like_key n log p q (inl h) = ap (λ (x : Post). x.key) h.0
like_key n log p q (inr h) = ap (λ (x : Post). x.key) h.0

answer_on : (number : ℕ) (ask : Ask) (log next : List Fact) → Grows log next → (a : Apdu) → IsAnswer number ask log a → IsAnswer number ask next a
answer_on number ask log next grows (SimpleAck id choice) h = grows (Performed number (request_of ask) reply.Simple) h
answer_on number ask log next grows (ComplexAck id None choice octets) h = grows (Performed number (request_of ask) (reply.Complex octets)) h
answer_on number ask log next grows (Error id choice class code) h = grows (Performed number (request_of ask) (reply.Error class code)) h
answer_on number ask log next grows (Reject id reason) h = tt
answer_on number ask log next grows (Abort true id reason) h = tt
answer_on number ask log next grows _ h = absurd h

pub foreign_on : (number : ℕ) (t d : ClientTransaction) (log next : List Fact) → d.ask ≡ t.ask → (is_idle t.phase ≡ true → is_idle d.phase ≡ true)
    → Grows log next → (a : Apdu) → IsForeign number (Some t) log a → IsForeign number (Some d) next a
foreign_on number t d log next same on grows a (inl idle) = inl (on idle)
foreign_on number t d log next same on grows a (inr answer) =
    inr (subst (λ (x : Ask). IsAnswer number x next a) (sym same) (answer_on number t.ask log next grows a answer))

pub foreign_more : (number : ℕ) (o : Option ClientTransaction) (log next : List Fact) → Grows log next → (a : Apdu) → IsForeign number o log a
    → IsForeign number o next a
foreign_more number None log next grows a h = tt
foreign_more number (Some t) log next grows a h = foreign_on number t t log next refl (λ idle. idle) grows a h

pub aborts_on : (t d : ClientTransaction) → (is_idle t.phase ≡ true → is_idle d.phase ≡ true) → (a : Apdu) → AbortsOf (Some t) a → AbortsOf (Some d) a
aborts_on t d on a h = λ is. on (h is)

-- what an answer in one APDU is
pub given_answers : (number : ℕ) (ask : Ask) (log : List Fact) (c : Context) (o : Option Effect) (a : Apdu) → IsGivenBy c ask o a
    → ((y : Effect) → o ≡ Some y → y.request ≡ request_of ask) → IsAnswer number ask (performed number o log) a
given_answers number ask log c None (Reject id reason) h of = tt
given_answers number ask log c None (Abort true id reason) h of = tt
given_answers number ask log c None _ h of = absurd h
given_answers number ask log c (Some y) a h of = subst (λ (x : Apdu). IsAnswer number ask (Performed number y.request y.reply ∷ log) x) (sym h) (go y.reply refl)
  where
    go : (p : reply) → y.reply ≡ p → IsAnswer number ask (Performed number y.request y.reply ∷ log) (reply_apdu c ask.choice p)
    go reply.Simple is = inl (λ i. Performed number (of y refl i) (is i))
    go (reply.Complex octets) is = inl (λ i. Performed number (of y refl i) (is i))
    go (reply.Error class code) is = inl (λ i. Performed number (of y refl i) (is i))

-- Logs.

-- the ask of that number is a read, at a server that lets invoke IDs be used again
abbrev pub WasRead : Reusing → ℕ → List Fact → Type 0
WasRead u n log = (c : ℕ) × (s : ℕ) × (r : Request) × Has (Asked n c s r) log × (u.reuses s ≡ true) × (u.reads r.choice ≡ true)

pub record AreLogs (u : Reusing) (ours theirs : List Fact) : Type 0 where
  pub asked : (n c s : ℕ) (r : Request) → Has (Asked n c s r) theirs → Has (Asked n c s r) ours
  pub performed : (n : ℕ) (r : Request) (p : reply) → Has (Performed n r p) theirs → Has (Performed n r p) ours
  pub unended : (n : ℕ) → IsUnended n theirs → IsUnended n ours
  pub unperformed : (n : ℕ) → IsUnperformed n theirs → IsUnperformed n ours ⊎ WasRead u n theirs
  pub counted : asks_in ours ≡ asks_in theirs
  pub asked_away : (n c q : ℕ) (r : Request) → Has (AskedAway n c q r) theirs → Has (AskedAway n c q r) ours
  pub unended_away : (n : ℕ) → IsUnendedAway n theirs → IsUnendedAway n ours

has_more : (f g : Fact) (ours theirs : List Fact) → (Has g theirs → Has g ours) → Has g (f ∷ theirs) → Has g (f ∷ ours)
has_more f g ours theirs k (inl is) = inl is
has_more f g ours theirs k (inr h) = inr (k h)

read_more : (u : Reusing) (n : ℕ) (f : Fact) (log : List Fact) → WasRead u n log → WasRead u n (f ∷ log)
read_more u n f log h = (h.0, h.1, h.2, inr h.3, h.4, h.5)

module _ (u : Reusing) (ours theirs : List Fact) (h : AreLogs u ours theirs) where
  either : (n : ℕ) (f : Fact) → IsUnperformed n ours ⊎ WasRead u n theirs → (IsUnperformed n ours → IsUnperformed n (f ∷ ours))
      → IsUnperformed n (f ∷ ours) ⊎ WasRead u n (f ∷ theirs)
  either n f (inl un) k = inl (k un)
  either n f (inr read) k = inr (read_more u n f theirs read)

  -- a fact enters both
  pub logs_both : (f : Fact) → AreLogs u (f ∷ ours) (f ∷ theirs)
  logs_both f = record {
    asked = λ n c s r. has_more f (Asked n c s r) ours theirs (h.asked n c s r);
    performed = λ n r p. has_more f (Performed n r p) ours theirs (h.performed n r p);
    unended = unended f;
    unperformed = unperformed f;
    counted = counted f;
    asked_away = λ n c q r. has_more f (AskedAway n c q r) ours theirs (h.asked_away n c q r);
    unended_away = unended_away f;
  }
    where
      unended_away : (f : Fact) (n : ℕ) → IsUnendedAway n (f ∷ theirs) → IsUnendedAway n (f ∷ ours)
      unended_away (Asked m c s r) n k = h.unended_away n k
      unended_away (Performed m r p) n k = h.unended_away n k
      unended_away (Ended m how) n k = h.unended_away n k
      unended_away (Changed s c) n k = h.unended_away n k
      unended_away (Restarted s o) n k = h.unended_away n k
      unended_away (Served q s i b r p) n k = h.unended_away n k
      unended_away (AskedAway m c q r) n k = h.unended_away n k
      unended_away (EndedAway m how) n k = (k.0, h.unended_away n k.1)

      unended : (f : Fact) (n : ℕ) → IsUnended n (f ∷ theirs) → IsUnended n (f ∷ ours)
      unended (Asked m c s r) n k = h.unended n k
      unended (Performed m r p) n k = h.unended n k
      unended (Ended m how) n k = (k.0, h.unended n k.1)
      unended (Changed s c) n k = h.unended n k
      unended (Restarted s o) n k = h.unended n k
      unended (Served q s i b r p) n k = h.unended n k
      unended (AskedAway m c q r) n k = h.unended n k
      unended (EndedAway m how) n k = h.unended n k

      unperformed : (f : Fact) (n : ℕ) → IsUnperformed n (f ∷ theirs) → IsUnperformed n (f ∷ ours) ⊎ WasRead u n (f ∷ theirs)
      unperformed (Asked m c s r) n k = either n (Asked m c s r) (h.unperformed n k) (λ un. un)
      unperformed (Performed m r p) n k = either n (Performed m r p) (h.unperformed n k.1) (λ un. (k.0, un))
      unperformed (Ended m how) n k = either n (Ended m how) (h.unperformed n k) (λ un. un)
      unperformed (Changed s c) n k = either n (Changed s c) (h.unperformed n k) (λ un. un)
      unperformed (Restarted s o) n k = either n (Restarted s o) (h.unperformed n k) (λ un. un)
      unperformed (Served q s i b r p) n k = either n (Served q s i b r p) (h.unperformed n k) (λ un. un)
      unperformed (AskedAway m c q r) n k = either n (AskedAway m c q r) (h.unperformed n k) (λ un. un)
      unperformed (EndedAway m how) n k = either n (EndedAway m how) (h.unperformed n k) (λ un. un)

      counted : (f : Fact) → asks_in (f ∷ ours) ≡ asks_in (f ∷ theirs)
      counted (Asked m c s r) = ap suc h.counted
      counted (Performed m r p) = h.counted
      counted (Ended m how) = h.counted
      counted (Changed s c) = h.counted
      counted (Restarted s o) = h.counted
      counted (Served q s i b r p) = h.counted
      counted (AskedAway m c q r) = ap suc h.counted
      counted (EndedAway m how) = h.counted

  -- a read is performed in one
  pub logs_read : (n : ℕ) (r : Request) (p : reply) → WasRead u n theirs → AreLogs u (Performed n r p ∷ ours) theirs
  logs_read n r p read = record {
    asked = λ m c s q k. inr (h.asked m c s q k);
    performed = λ m q a k. inr (h.performed m q a k);
    unended = h.unended;
    unperformed = λ m k. go m (decide m n) (h.unperformed m k);
    counted = h.counted;
    asked_away = λ m c q a k. inr (h.asked_away m c q a k);
    unended_away = h.unended_away;
  }
    where
      decide : (a b : ℕ) → (b ≡ a) ⊎ (b ≢ a)
      decide a b = test (nat_eq b a) refl
        where
          test : (z : Bool) → nat_eq b a ≡ z → (b ≡ a) ⊎ (b ≢ a)
          test true is = inl (grind (arith, nat_tests))
          test false is = inr (λ same. grind (arith, nat_tests))

      go : (m : ℕ) → (n ≡ m) ⊎ (n ≢ m) → IsUnperformed m ours ⊎ WasRead u m theirs → IsUnperformed m (Performed n r p ∷ ours) ⊎ WasRead u m theirs
      go m (inl same) k = inr (subst (λ (j : ℕ). WasRead u j theirs) same read)
      go m (inr ne) (inl un) = inl (ne, un)
      go m (inr ne) (inr was) = inr was

  -- an ask ends in both, each in its own way
  pub logs_ended : (n : ℕ) (how other : Ending) → AreLogs u (Ended n how ∷ ours) (Ended n other ∷ theirs)
  logs_ended n how other = record {
    asked = λ m c s q k. inr (h.asked m c s q (asked m c s q k));
    performed = λ m q a k. inr (h.performed m q a (performed m q a k));
    unended = λ m k. (k.0, h.unended m k.1);
    unperformed = λ m k. go m (h.unperformed m k);
    counted = h.counted;
    asked_away = λ m c q a k. inr (h.asked_away m c q a (asked_away m c q a k));
    unended_away = h.unended_away;
  }
    where
      asked_away : (m c q : ℕ) (a : Request) → Has (AskedAway m c q a) (Ended n other ∷ theirs) → Has (AskedAway m c q a) theirs
      asked_away m c q a (inl is) = absurd cc
      asked_away m c q a (inr k) = k

      asked : (m c s : ℕ) (q : Request) → Has (Asked m c s q) (Ended n other ∷ theirs) → Has (Asked m c s q) theirs
      asked m c s q (inl is) = absurd cc
      asked m c s q (inr k) = k

      performed : (m : ℕ) (q : Request) (a : reply) → Has (Performed m q a) (Ended n other ∷ theirs) → Has (Performed m q a) theirs
      performed m q a (inl is) = absurd cc
      performed m q a (inr k) = k

      go : (m : ℕ) → IsUnperformed m ours ⊎ WasRead u m theirs → IsUnperformed m (Ended n how ∷ ours) ⊎ WasRead u m (Ended n other ∷ theirs)
      go m (inl un) = inl un
      go m (inr was) = inr (read_more u m (Ended n other) theirs was)

  -- a request of a stranger is performed in one
  pub logs_served : (key : Key) (begin : ℕ) (o : Option Effect) → AreLogs u (served key begin o ours) theirs
  logs_served key begin None = h
  logs_served key begin (Some e) = record {
    asked = λ m c s q k. inr (h.asked m c s q k);
    performed = λ m q a k. inr (h.performed m q a k);
    unended = h.unended;
    unperformed = h.unperformed;
    counted = h.counted;
    asked_away = λ m c q a k. inr (h.asked_away m c q a k);
    unended_away = h.unended_away;
  }

  pub logs_ending_away : (n : ℕ) (o : Option Ending) → AreLogs u (ended_away n o ours) (ended_away n o theirs)
  logs_ending_away n None = h
  logs_ending_away n (Some how) = logs_both (EndedAway n how)

  pub may_end : (n : ℕ) (how : Ending) → MayEnd n how theirs → MayEnd n how ours
  may_end n (Answered p) k = (k.0, h.performed n k.0 p k.1)
  may_end n (Rejected reason) k = (k.0, k.1, k.2, h.asked n k.0 k.1 k.2 k.3)
  may_end n (Aborted reason) k = (k.0, k.1, k.2, h.asked n k.0 k.1 k.2 k.3)
  may_end n TimedOut k = (k.0, k.1, k.2, h.asked n k.0 k.1 k.2 k.3)
  may_end n Expired k = (k.0, k.1, k.2, h.asked n k.0 k.1 k.2 k.3)

  pub logs_ending : (n : ℕ) (o : Option Ending) → AreLogs u (ended n o ours) (ended n o theirs)
  logs_ending n None = h
  logs_ending n (Some how) = logs_both (Ended n how)

  pub logs_effect : (n : ℕ) (o : Option Effect) → AreLogs u (performed n o ours) (performed n o theirs)
  logs_effect n None = h
  logs_effect n (Some e) = logs_both (Performed n e.request e.reply)

  pub logs_read_effect : (n : ℕ) (o : Option Effect) → WasRead u n theirs → AreLogs u (performed n o ours) theirs
  logs_read_effect n None read = h
  logs_read_effect n (Some e) read = logs_read n e.request e.reply read

pub ended_grows : (n : ℕ) (o : Option Ending) (log : List Fact) → Grows log (ended n o log)
ended_grows n None log f h = h
ended_grows n (Some how) log f h = inr h

pub performed_grows : (n : ℕ) (o : Option Effect) (log : List Fact) → Grows log (performed n o log)
performed_grows n None log f h = h
performed_grows n (Some e) log f h = inr h

pub served_grows : (key : Key) (begin : ℕ) (o : Option Effect) (log : List Fact) → Grows log (served key begin o log)
served_grows key begin None log f h = h
served_grows key begin (Some e) log f h = inr h

pub ended_away_grows : (n : ℕ) (o : Option Ending) (log : List Fact) → Grows log (ended_away n o log)
ended_away_grows n None log f h = h
ended_away_grows n (Some how) log f h = inr h
