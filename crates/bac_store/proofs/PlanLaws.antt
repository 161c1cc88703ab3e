-- The effects of plans are the effects of requests.
use Rattle.std.proofs.Common.{◌≡◌, ℕ, ℤ, suc, ◌<◌, Bool, true, false, List, [], ◌∷◌}
use Rattle.std.proofs.Common.{Some, Result, Ok, Err, IfOk, sym, ap, refl, arith, if◌then◌else◌, ◌∙◌}
use Rattle.std.specs.List.{All, AllPairs}
use Rattle.std.specs.Option.{option_map}
use Rattle.std.proofs.lemmas.Bool.Decides.{nat_tests}
use Rattle.std.proofs.lemmas.List.Elements.{All-head, All-tail}
use Rattle.bac_value.specs.Value.{ObjectId}
use Rattle.bac_service.specs.Values.WriteAccess.{WriteStream}
use Rattle.bac_service.specs.Values.Request.{WriteFile}
use Rattle.bac_store.specs.Changes.{where_that, with_contents, with_octets, is_done, after}
use Rattle.bac_store.specs.Kept.{object_number, IsInOrder}
use Rattle.bac_store.specs.Plans.{Plan, with_effect, IsPlanFor, IsStreamPlan}
use Rattle.bac_store.specs.Replies.{reply_to, file_of, overwritten, write_start, written}
use Rattle.bac_store.specs.Stores.{Store, Object, File, is_object, is_same, object_in}

pub same_numbers : (id a b : ObjectId) → is_same id a ≡ true → is_same id b ≡ true → object_number a < object_number b → ⊥
same_numbers id a b p q l = grind (arith, nat_tests)

module _ (id : ObjectId) (change : Object → Object) where
  alone : (o : Object) (s : Store) → is_object id o ≡ true → All (λ b. object_number o.id < object_number b.id) s → where_that (is_object id) change s ≡ s
  alone o [] is apart = refl
  alone o (b ∷ s) is apart = go (is_object id b) refl (alone o s is (All-tail (λ c. object_number o.id < object_number c.id) b s apart))
    where
      go : (t : Bool) → is_object id b ≡ t → where_that (is_object id) change s ≡ s → (if t then change b else b) ∷ where_that (is_object id) change s ≡ b ∷ s
      go true e rest = absurd (same_numbers id o.id b.id is e (All-head (λ c. object_number o.id < object_number c.id) b s apart))
      go false e rest = ap (λ t. b ∷ t) rest

module _ (id : ObjectId) (planned write : List ℕ → List ℕ) (f : File) (same : planned f.octets ≡ write f.octets) where
  pub same_octets : (s : Store) → AllPairs (λ a b. object_number a.id < object_number b.id) s → file_of (object_in s id) ≡ Some f
      → where_that (is_object id) (with_octets planned) s ≡ where_that (is_object id) (with_octets write) s
  same_octets [] rise is = refl
  same_octets (o ∷ s) rise is = go (is_object id o) refl is (same_octets s tail)
    where
      apart : All (λ b. object_number o.id < object_number b.id) s
      apart j d l = rise 0 (suc j) d (omega arith) (omega arith)

      tail : AllPairs (λ a b. object_number a.id < object_number b.id) s
      tail i j d l within = rise (suc i) (suc j) d (omega arith) (omega arith)

      go : (t : Bool) → is_object id o ≡ t → file_of (if t then Some o else object_in s id) ≡ Some f
          → (file_of (object_in s id) ≡ Some f → where_that (is_object id) (with_octets planned) s ≡ where_that (is_object id)
          (with_octets write) s)
          → (if t then with_octets planned o else o) ∷ where_that (is_object id) (with_octets planned) s
          ≡ (if t then with_octets write o else o) ∷ where_that (is_object id) (with_octets write) s
      go true e file rest =
          ap (λ t. with_octets planned o ∷ t)
          (alone id (with_octets planned) o s e apart ∙ sym (alone id (with_octets write) o s e apart))
          ∙ ap (λ x. x ∷ where_that (is_object id) (with_octets write) s)
          (ap (λ g. record o { file = option_map (with_contents planned) g }) file
          ∙ ap (λ octets. record o { file = Some (record f { octets = octets }) }) same
          ∙ sym (ap (λ g. record o { file = option_map (with_contents write) g }) file))
      go false e file rest = ap (λ t. o ∷ t) (rest file)

pub stream_plan : (s : Store) (id : ObjectId) (start : ℤ) (new : List ℕ) (f : File) (p : Plan) → IsInOrder s → file_of (object_in s id) ≡ Some f
    → IsStreamPlan id start new f p → IsPlanFor s (WriteFile id (WriteStream start new)) p
stream_plan s id start new f p o file plan = record { reply = reply; effect = go (is_done p.reply) refl }
  where
    reply : p.reply ≡ reply_to s (WriteFile id (WriteStream start new))
    reply = rw file plan.reply

    go : (b : Bool) → is_done p.reply ≡ b → with_effect p.effect s ≡ after s (WriteFile id (WriteStream start new))
    go true e = rw (plan.effect, e, ← reply, e) (same_octets id (overwritten (write_start start f.octets) new) (written start new) f refl s o.rise file)
    go false e = rw (plan.effect, e, ← reply, e) refl

pub IfOk-map : {T E : Type 0} (r : Result T E) (P Q : T → Type 0) → ((x : T) → P x → Q x) → IfOk r P → IfOk r Q
IfOk-map (Ok x) P Q f h = f x h
IfOk-map (Err e) P Q f h = tt
