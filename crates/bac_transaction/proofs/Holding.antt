-- A slot is held exactly while its ticket is.
use Rattle.std.proofs.Common.{◌≡◌, ◌-◌, ℕ, Bool, true, false, not, ◌||◌, nat_le, refl}
use Rattle.bac_protocol.specs.Client as client
use Rattle.bac_protocol.specs.Client.{ClientTransaction, is_idle}
use Rattle.bac_protocol.specs.declared.times.TheConstants.{HOLD}
use Rattle.bac_transaction.specs.Ends.{is_held, kept, open_unless}

pub held_is : (now : ℕ) (t : ClientTransaction) → is_held now (kept t) ≡ client.is_held now t
held_is now t = go (is_idle t.phase)
  where
    go : (b : Bool) → is_held now (open_unless b t) ≡ (not b || nat_le (now - t.ask.first) HOLD)
    go true = refl
    go false = refl
