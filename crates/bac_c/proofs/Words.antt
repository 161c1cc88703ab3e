-- A parked address: its machine word, and how it is made and taken apart. Nothing follows the address.
use Rattle.std.proofs.Common.{◌≡◌, List, [], ◌∷◌, refl, lit<}
use Rattle.std.specs.Prelude.{Option, None, Some}
use lib.Dec.{T}
use seplogic.Ra.Ura.{Ura}
use mir.Val.{Val, vstruct, vcons, vnil, has_ty, WT}
use types.Logic.{Logic}
use types.Kit.{Goal, Item, Step, step, ‵, ◌$◌, fjoin}
use denote.RattleType.{RattleType}
use denote.Laws.{Is, Tells}
use denote.RawPtr.{Ptr, block_ptr, null_ptr, ptr_val}
use denote.Steps.{owned}
use denote.Struct.Struct.{Struct, Struct-Makes}
use denote.Struct.Owning.{shape}
use denote.Param.{layout}
use Rattle.bac_c.specs.Parking.{parks}
use Rattle.bac_c.specs.contracts.parked.Parked as parked
use Rattle.bac_c.proofs.parked.Parked.TheFields.TheLaws as plain
use Rattle.bac_c.proofs.parked.Parked.TheLaws.{lowers}

abbrev pub R : RattleType
R = parked.the_row

abbrev pub word : Ptr → Val
word p = vstruct (vcons (ptr_val p) vnil)

pub word_typed : (p : Ptr) → T (has_ty (layout R) (word p)) × WT (word p)
word_typed (block_ptr b o) = (tt, (tt, tt))
word_typed null_ptr = (tt, (record { fits = lit< tt }, tt))

pub word_told : Tells R (Is R) (λ d. word d.at ∷ [])
word_told d vs is = lowers.val_is d vs is

-- what is held where something is, and that it is
pub held_in : {X : Type 0} (o : Option X) → (o ≡ None → ⊥) → X
held_in None some = absurd (some refl)
held_in (Some x) some = x

pub held_is : {X : Type 0} (o : Option X) (some : o ≡ None → ⊥) → o ≡ Some (held_in o some)
unfolding held_in
held_is None some = absurd (some refl)
held_is (Some x) some = refl

module _ {M : Type 1} {𝓤 : Ura M} {𝓛 : Logic 𝓤} {K : Type 0} {Γ : List (Item 𝓤)} {G : Goal 𝓤 𝓛.H} where
  pub parked_in : K → (d : R.Denot) → Step K 𝓛 (‵ (R.own_val d (word d.at ∷ [])) ∷ Γ) G (‵ (parks d.at d.device) ∷ Γ) G
  parked_in t d = step (λ s.
      owned t (Struct (shape parked.the_type)) _ (Struct-Makes 𝓛 (shape parked.the_type) plain.the_plain) (d.at, tt) (word d.at ∷ []) ((ptr_val d.at ∷ [], tt), (refl, (refl, tt))) $ fjoin t $ s)
