-- How a node is started, from the parts of it.
use Rattle.std.proofs.Common.{◌≡◌, List, subst, sym, ap, ◌∙◌}
use Rattle.std.specs.Prelude.{◌↔◌, ℕ, Option, Some, Result, Ok, Err, IsErrAnd, IsErrOf}
use Rattle.bac_store.specs.House.{house}
use Rattle.bac_store.specs.Stores.{Object, Store}
use Rattle.bac_world.specs.Node.{Node}
use Rattle.bac_node.specs.Fresh.{fresh_node, made_node}
use Rattle.bac_node.specs.declared.config.Config.{Config}
use Rattle.bac_c.specs.declared.fault.Fault.{Fault}
use Rattle.bac_c.specs.declared.fault.Fault.TheVariants as fault
use Rattle.bac_c.specs.declared.records.Settings.{Settings}
use Rattle.bac_c.specs.declared.rule.Rule.{Rule}
use Rattle.bac_keep.specs.Cells.{Cells}
use Rattle.bac_keep.specs.Overlay.{overlay}
use Rattle.bac_c.specs.Fitting.{AreFit, HasUnfit, IsUnfitAt}
use Rattle.bac_c.specs.Keeping.{IsRestoredNode}
use Rattle.bac_c.specs.Starting.{AreBad, IsConfigOf, IsHouseWith, IsStartedNode}

pub house_with : (s : Settings) (c : Config) (store : Store) (n : Node) → IsConfigOf s c → store ≡ house → n ≡ fresh_node c store → IsHouseWith s (Some n)
house_with s c store n says is fresh = record { config = c; says = says; fresh = ap Some (fresh ∙ ap (fresh_node c) is) }

module _ (Makes : List Object → Store → Type 0) (objects copies : List Object) (store : Store) (same : copies ≡ objects) (made : Makes copies store) where
  made_of : Makes objects store
  made_of = subst (λ (os : List Object). Makes os store) same made

  pub started_with : (s : Settings) (c : Config) (restart : Option ℕ) (n : Node) → IsConfigOf s c → n ≡ made_node c store restart
      → IsStartedNode Makes s restart objects (Some n)
  started_with s c restart n says fresh = record { config = c; says = says; store = store; made = made_of; fresh = fresh }

  pub restored_with : (s : Settings) (c : Config) (now : ℕ) (cells : Cells) (n : Node) → IsConfigOf s c → AreFit store cells
      → n ≡ made_node c (overlay cells store) (Some now) → (running : Option Node) → running ≡ Some n → IsRestoredNode Makes s now objects cells running
  restored_with s c now cells n says fit fresh running is =
      subst (λ (x : Option Node). IsRestoredNode Makes s now objects cells x) (sym is)
      (record { config = c; says = says; document = store; made = made_of; fit = fit; fresh = fresh })

  pub unfit_for : (cells : Cells) (place : ℕ) → IsUnfitAt store cells place → HasUnfit Makes objects cells place
  unfit_for cells place unfit = record { document = store; made = made_of; unfit = unfit }

-- what the objects are refused for is passed on
pub bad_passed : (r : Rule) (objects copies : List Object) (stored : Result Store Fault) (passed : Result (Unit {0}) Fault) (f : Fault) (Ready : Type 0)
    → copies ≡ objects → Ready → stored ≡ Err f → IsErrAnd passed (λ e. e ≡ f)
    → ((IsErrOf stored fault.NoMemory → ⊥) → (IsErrOf stored fault.BadObject ↔ AreBad r copies))
    → (IsErrOf passed fault.NoMemory → ⊥) → (IsErrOf passed fault.BadObject ↔ Ready × AreBad r objects)
bad_passed r objects copies stored (Ok x) f Ready same ready was is bad held = absurd is
bad_passed r objects copies stored (Err e) f Ready same ready was is bad held =
    let failed : stored ≡ Err e = was ∙ ap Err (sym is) in
    let told : IsErrOf stored fault.BadObject ↔ AreBad r copies = bad (λ memory. held (ap Err (ap error_in (sym failed ∙ memory)))) in (
      (λ b. (ready, subst (AreBad r) same (told.0 (failed ∙ ap Err (ap error_of b))))),
      (λ b. ap Err (ap error_in (sym failed ∙ told.1 (subst (AreBad r) (sym same) b.1)))),
    )
  where
    error_in : Result Store Fault → Fault
    error_in (Ok s) = fault.NotOpen
    error_in (Err g) = g

    error_of : Result (Unit {0}) Fault → Fault
    error_of (Ok x) = fault.NotOpen
    error_of (Err g) = g
