-- A live entry is the entry.
use Rattle.std.proofs.Common.{◌≡◌, ℕ, Bool, true, false, Option, Some, None, if◌then◌else◌, refl, ap, subst}
use Rattle.bac_protocol.specs.Server.{ServerTransaction, live_entry, is_live}

-- a live entry is the entry
pub record IsThere (now : ℕ) (o : Option ServerTransaction) (e : ServerTransaction) : Type 0 where
  pub at : o ≡ Some e
  pub live : is_live now e ≡ true

pub there : (now : ℕ) (o : Option ServerTransaction) (e : ServerTransaction) → live_entry now o ≡ Some e → IsThere now o e
there now None e is = absurd cc
there now (Some d) e is = go (is_live now d) refl is
  where
    go : (b : Bool) → is_live now d ≡ b → (if b then Some d else None) ≡ Some e → IsThere now (Some d) e
    go true l h = let same : d ≡ e = cc in record { at = h; live = subst (λ (y : ServerTransaction). is_live now y ≡ true) same l }
    go false l h = absurd cc

pub live_self : (now : ℕ) (e : ServerTransaction) → is_live now e ≡ true → live_entry now (Some e) ≡ Some e
live_self now e live = ap (λ b. if b then Some e else None) live
