-- While an ask is in time its invoke ID is held, or its client waits after a restart; and an entry that is done for an ask.
use Rattle.std.proofs.Common.{◌≡◌, ℕ, ◌-◌, ◌≤◌, Bool, true, false, ◌&&◌, ◌||◌, not, Some, nat_le, nat_lt, refl, ap, ◌∙◌, arith}
use Rattle.std.proofs.lemmas.Bool.Decides.{nat_tests}
use Rattle.bac_apdu.specs.Apdu.{Apdu}
use Rattle.bac_protocol.specs.declared.times.TheConstants.{HOLD, REST}
use Rattle.bac_protocol.specs.Client.{Ask, is_idle}
use Rattle.bac_protocol.specs.Server.{ServerTransaction, Service}
use Rattle.bac_protocol.specs.Server.State.{Done}
use Rattle.bac_protocol.specs.Transaction.{Key, Rules}
use Rattle.bac_protocol.specs.World.{Net, client_now, is_key_held, is_id_held}
use Rattle.bac_liveness.specs.Runs.{StaysSince}
use Rattle.bac_liveness.proofs.Changes.{IsThere}
use Rattle.bac_liveness.proofs.Clocks.{MadeIn, BegunIn}

module _ (x : Rules) (Q : Net → ℕ → Bool → Service → Type 0) where
  module _ (key : Key) (number : ℕ) (ask : Ask) (made : ℕ) where
    -- while an ask is in time its invoke ID is held, where its client has not restarted since
    pub held_in_time : (n : Net) → IsThere x Q key number ask made n → StaysSince n key made → client_now n key - ask.first ≤ REST → is_id_held n key ≡ true
    held_in_time n h stays young = by_wait (nat_lt (client_now n key) (n.asks_from key.client)) refl
      where
        first : h.ticket.ask.first ≡ ask.first
        first = ap (λ (a : Ask). a.first) h.is

        held : (b : Bool) → (not b || nat_le (client_now n key - h.ticket.ask.first) HOLD) ≡ true
        held false = refl
        held true = let f = first in grind (arith, nat_tests)

        kept : nat_lt (n.made key) (n.restarted key.client) ≡ false
        kept = let e = h.made_is in let le = stays in grind (arith, nat_tests)

        by_wait : (b : Bool) → nat_lt (client_now n key) (n.asks_from key.client) ≡ b → is_id_held n key ≡ true
        by_wait true e = ap (λ (c : Bool). c || (not (nat_lt (n.made key) (n.restarted key.client)) && is_key_held (client_now n key) (n.tickets key))) e
        by_wait false e =
            ap (λ (c : Bool). c || (not (nat_lt (n.made key) (n.restarted key.client)) && is_key_held (client_now n key) (n.tickets key))) e
            ∙ ap (λ (c : Bool). not c && is_key_held (client_now n key) (n.tickets key)) kept
            ∙ ap (is_key_held (client_now n key)) h.at
            ∙ held (is_idle h.ticket.phase)

    -- an entry keeps the reply, which was begun for it at that moment
    module _ (begin : ℕ) (kept : Apdu) where
      pub record IsKept (n : Net) : Type 0 where
        pub there : IsThere x Q key number ask made n
        pub entry : ServerTransaction
        pub at : n.entries key ≡ Some entry
        pub begun : entry.begin ≡ begin
        pub state : entry.state ≡ Done kept
        pub runs : MadeIn n key ask.first made
        pub since : BegunIn n key made begin
