-- What is known of nets whatever the rule of their servers: a net in which invoke IDs are used again has another one beside it, in which none is.
use Rattle.std.proofs.Common.{◌≡◌, ℕ, ◌-◌, ◌≤◌, Bool, true, false, List, Option, Some, None, slice_get, refl, sym, ap, subst, inl, inr, ◌∙◌}
use Rattle.bac_apdu.specs.Apdu.{Apdu}
use Rattle.bac_apdu.specs.Apdu.Apdu.{ConfirmedRequest, UnconfirmedRequest, SimpleAck, ComplexAck, SegmentAck, Error, Reject, Abort}
use Rattle.bac_protocol.specs.Wire.{is_from_client, is_from_server}
use Rattle.bac_protocol.specs.Client.{Ask, ClientTransaction, is_idle}
use Rattle.bac_protocol.specs.Log.{Fact}
use Rattle.bac_protocol.specs.Transaction.{Key, Rules}
use Rattle.bac_protocol.specs.World.{Net, Post, later}
use Rattle.bac_protocol.specs.Claims.{IsBounded, Moments, moments_of}
use Rattle.bac_protocol.proofs.Keys.{copy_at}
use Rattle.bac_protocol.proofs.Nets.{NetSound, sound_at}
use Rattle.bac_protocol.proofs.SingleMoves.{reached_net}
use Rattle.bac_protocol.proofs.Sound.{Up, Down, Says}
use Rattle.bac_reuse.proofs.Beside.{IsForeign, IsLike, like_at, over}
use Rattle.bac_reuse.proofs.Clients.{IsAnswer}
use Rattle.bac_reuse.proofs.ReusingMoves.{reached_known_in}
use Rattle.bac_reuse.proofs.Simulated.{IsFollowed}
use Rattle.bac_reuse.specs.Runs.{Reusing}
use Rattle.bac_world.proofs.Machines.{Sound}
use Rattle.bac_world.proofs.Settings.{Mode, Setting, reusing_in}
use Rattle.bac_liveness.proofs.RoundTrips.{SoundIn}

-- what a copy of a transaction says is sent by its client or by its server
pub from_server : (W : ℕ) (times : Moments) (number : ℕ) (ask : Ask) (log : List Fact) (up : Up) (down : Down) (moment k : ℕ) (a : Apdu)
    → Says W times number ask log up down moment k a → is_from_client a ≡ false → is_from_server a ≡ true
from_server W times number ask log up down moment k (ConfirmedRequest l id g choice o) h e = absurd cc
from_server W times number ask log up down moment k (UnconfirmedRequest choice o) h e = absurd h
from_server W times number ask log up down moment k (SimpleAck id choice) h e = refl
from_server W times number ask log up down moment k (ComplexAck id g choice o) h e = refl
from_server W times number ask log up down moment k (SegmentAck true id ack) h e = refl
from_server W times number ask log up down moment k (SegmentAck false id ack) h e = absurd cc
from_server W times number ask log up down moment k (Error id choice class code) h e = refl
from_server W times number ask log up down moment k (Reject id r) h e = refl
from_server W times number ask log up down moment k (Abort true id r) h e = refl
from_server W times number ask log up down moment k (Abort false id r) h e = absurd cc

-- an answer is sent by a server
answer_from_server : (number : ℕ) (ask : Ask) (log : List Fact) (a : Apdu) → IsAnswer number ask log a → is_from_server a ≡ true
answer_from_server number ask log (SimpleAck id choice) h = refl
answer_from_server number ask log (ComplexAck id None choice o) h = refl
answer_from_server number ask log (Error id choice class code) h = refl
answer_from_server number ask log (Reject id r) h = refl
answer_from_server number ask log (Abort true id r) h = refl
answer_from_server number ask log _ h = absurd h

-- a young copy that is not its client's, where its ticket is open, is sent by its server
abbrev pub ServersSend : Net → Type 0
ServersSend n =
    (number : ℕ) (p : Post) → slice_get n.posts number ≡ Some p → is_from_client p.copy.apdu ≡ false → n.now - p.copy.moment ≤ n.pace.life
    → (t : ClientTransaction) → n.tickets p.key ≡ Some t → is_idle t.phase ≡ false → is_from_server p.copy.apdu ≡ true

-- no two tickets have one number
abbrev pub AreNumbered : Net → Type 0
AreNumbered n = (a b : Key) (t u : ClientTransaction) → n.tickets a ≡ Some t → n.tickets b ≡ Some u → n.numbers a ≡ n.numbers b → a ≡ b

strictly_send : (W : ℕ) (n : Net) → NetSound W n → (number : ℕ) (p : Post) → slice_get n.posts number ≡ Some p → is_from_client p.copy.apdu ≡ false
    → n.now - p.copy.moment ≤ n.pace.life → (t : ClientTransaction) → n.tickets p.key ≡ Some t → is_from_server p.copy.apdu ≡ true
strictly_send W n s number p at down young t there =
    let known : (up : Up) × (down : Down) × SoundIn W n p.key t up down = sound_at W n p.key (Some t) there s in
    from_server W (moments_of n p.key) (n.numbers p.key) t.ask n.log known.0 known.1 p.copy.moment (later p.key number n.posts) p.copy.apdu
    (((known.2).arriving (later p.key number n.posts) p.copy (copy_at number n.posts p at) young).1) down

module _ (W : ℕ) (ever : Reusing) (reuses : ℕ → Bool) (n : Net) (f : IsFollowed W ever reuses n) where
  followed_numbered : AreNumbered n
  followed_numbered = subst AreNumbered (sym f.4) ((f.2).net.apart)

  followed_send : ServersSend n
  followed_send = subst ServersSend (sym f.4) send
    where
      send : ServersSend (over f.0 f.1)
      send number p at down young t there going = go q.2
        where
          q : (q : Post) × (slice_get f.0.posts number ≡ Some q) × IsLike f.0 f.1.log p q
          q = like_at (IsLike f.0 f.1.log) f.1.posts f.0.posts number p (f.3).posts at

          by : IsForeign (f.0.numbers p.key) (Some t) f.1.log p.copy.apdu → is_from_server p.copy.apdu ≡ true
          by (inl idle) = absurd (let no : true ≡ false = sym idle ∙ going in cc)
          by (inr answer) = answer_from_server (f.0.numbers p.key) t.ask f.1.log p.copy.apdu answer

          go : IsLike f.0 f.1.log p q.0 → is_from_server p.copy.apdu ≡ true
          go (inl like) = strictly_send W f.0 (f.2).net number p (q.1 ∙ ap Some like.0) down young t there
          go (inr like) =
              by (subst (λ (o : Option ClientTransaction). IsForeign (f.0.numbers p.key) o f.1.log p.copy.apdu) there (like.2 young))

module _ (W : ℕ) (x : Rules) (bound : IsBounded W x) where
  followed : (m : Mode) (n : Net) → Sound W x (Some m) n → IsFollowed W (reusing_in (Some m)) m.now n
  followed m n s = (reached_known_in W (reusing_in (Some m)) s.0 s.2 s.1 m.now n s.3).followed

  pub are_numbered : (set : Setting) (n : Net) → Sound W x set n → AreNumbered n
  are_numbered None n s = (reached_net W x bound s.0 s.2 s.1 n s.3).apart
  are_numbered (Some m) n s = followed_numbered W (reusing_in (Some m)) m.now n (followed m n s)

  pub servers_send : (set : Setting) (n : Net) → Sound W x set n → ServersSend n
  servers_send None n s number p at down young t there going =
      strictly_send W n (reached_net W x bound s.0 s.2 s.1 n s.3) number p at down young t there
  servers_send (Some m) n s number p at down young t there going =
      followed_send W (reusing_in (Some m)) m.now n (followed m n s) number p at down young t there going
