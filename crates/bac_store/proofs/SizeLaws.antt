-- What a granted write of a file's size says of its values, and its effect.
use Rattle.std.proofs.Common.{◌≡◌, ◌≢◌, ◌∙◌, ℕ, ◌≤◌, Bool, true, false, not, ◌==◌, ◌&&◌, nat_lt, nat_le, List, [], ◌∷◌, length, Option, Some, None}
use Rattle.std.proofs.Common.{is_some, ◌||◌, refl, sym, ap, subst, arith, if◌then◌else◌}
use Rattle.std.specs.Option.{option_map}
use Rattle.std.proofs.lemmas.Bool.Decides.{nat_tests}
use Rattle.std.proofs.lemmas.List.{length-append, length-replicate, length-take}
use Rattle.bac_value.specs.Reading.{element_at, tag_at, tag_number_at, form_at, length_at, contents_at, class_at, kind_at, number_at, raw_at}
use Rattle.bac_service.specs.Values.{Reference, Request}
use Rattle.bac_service.specs.Values.Request.{WriteProperty}
use Rattle.bac_service.specs.Replies.{Reply}
use Rattle.bac_service.specs.Replies.Reply.{Simple}
use Rattle.bac_store.specs.Allowing.{is_allowed}
use Rattle.bac_store.specs.Changes.{IsGranted, IsSize, after, is_done, resized, size_of, with_object, with_octets}
use Rattle.bac_store.specs.Kept.{Fits, IsInOrder}
use Rattle.bac_store.specs.Limits.{FILE_LIMIT, FILE_SIZE, VALUE_LIMIT}
use Rattle.bac_store.specs.Plans.{IsPlanFor, StoreEffect, size_effect, with_effect, write_effect}
use Rattle.bac_store.specs.Ranks.{Rank, is_at_most, is_rank_at_most, place_or_zero, rank_of}
use Rattle.bac_store.proofs.PlanLaws.{same_octets}
use Rattle.bac_store.proofs.WriteLaws.{after_granted, listed_written, size_written}
use Rattle.bac_store.specs.Replies.{at_property, file_of, is_of_kind, is_out_of_range, is_right_state, reply_to, write_reply}
use Rattle.bac_store.specs.Stores.{File, Object, Property, Store, file_size, is_sizable, object_in, property_in, sizes}

-- ---- values that are a size

most : rank_of (0x22 ∷ 0xEA ∷ 0x60 ∷ []) ≡ Some (2, FILE_LIMIT)
unfolding element_at tag_at tag_number_at form_at length_at contents_at class_at kind_at number_at raw_at
most = refl

nothing : rank_of [] ≡ None
unfolding element_at tag_at tag_number_at form_at length_at contents_at class_at kind_at number_at raw_at
nothing = refl

below : (x : Option Rank) → is_rank_at_most x (Some (2, FILE_LIMIT)) ≡ true → place_or_zero x ≤ FILE_LIMIT
below None h = cc
below (Some r) h = go (r.0 == 2) h
  where
    go : (b : Bool) → (b && nat_le r.1 FILE_LIMIT) ≡ true → r.1 ≤ FILE_LIMIT
    go true e = grind (arith, nat_tests)
    go false e = cc

both : (a b : Bool) → (a && b) ≡ true → b ≡ true
both true b e = e
both false b e = cc

some_octets : (values : List ℕ) → is_at_most values (0x22 ∷ 0xEA ∷ 0x60 ∷ []) ≡ true → 1 ≤ length values
some_octets [] h =
    let never : is_rank_at_most None (rank_of (0x22 ∷ 0xEA ∷ 0x60 ∷ [])) ≡ true = subst
    (λ (x : Option Rank). is_rank_at_most x (rank_of (0x22 ∷ 0xEA ∷ 0x60 ∷ [])) ≡ true) nothing h in
    absurd (cc)
some_octets (x ∷ xs) h = omega arith

pub allowed_size : (values : List ℕ) → is_allowed sizes values ≡ true → IsSize values
allowed_size values h =
    let greatest = both (is_at_most (0x21 ∷ 0 ∷ []) values) (is_at_most values (0x22 ∷ 0xEA ∷ 0x60 ∷ [])) h in
    (some_octets values greatest, below (rank_of values) (ap (is_rank_at_most (rank_of values)) (sym most) ∙ greatest))

-- ---- granted writes of a size

module _ (r : Reference) (values : List ℕ) where
  by_case : (index writable kind state allowed long : Bool)
      → is_done (if index then Reply.Error 2 50 else (if not writable then Reply.Error 2 40 else (if not kind then Reply.Error 2 9 else
      (if not state || not allowed then Reply.Error 2 37 else (if long then Reply.Error 3 20 else Simple))))) ≡ true
      → allowed ≡ true
  by_case true writable kind state allowed long h = cc
  by_case false false kind state allowed long h = cc
  by_case false true false state allowed long h = cc
  by_case false true true false allowed long h = cc
  by_case false true true true false long h = cc
  by_case false true true true true long h = refl

  of_file : (o : Object) (f : Option File) → is_done (at_property (option_map (file_size o) f) (write_reply r values)) ≡ true → IsSize values
  of_file o None h = absurd (cc)
  of_file o (Some f) h =
      allowed_size values
      (by_case (is_some r.index) (is_sizable o) (is_of_kind (file_size o f).kind values) (is_right_state r values) (is_allowed sizes values)
      (nat_lt VALUE_LIMIT (length values)) h)

  pub granted_size : (o : Object) → r.property ≡ FILE_SIZE → Simple ≡ at_property (property_in o r.property) (write_reply r values) → IsSize values
  granted_size o is simple =
      of_file o o.file
      (ap (λ n. is_done (at_property (property_in o n) (write_reply r values))) (sym is) ∙ ap is_done (sym simple))

  by_length : (index writable kind range long : Bool)
      → is_done (if index then Reply.Error 2 50 else (if not writable then Reply.Error 2 40 else (if not kind then Reply.Error 2 9 else
      (if range then Reply.Error 2 37 else (if long then Reply.Error 3 20 else Simple))))) ≡ true
      → long ≡ false
  by_length true writable kind range long h = cc
  by_length false false kind range long h = cc
  by_length false true false range long h = cc
  by_length false true true true long h = cc
  by_length false true true false true h = cc
  by_length false true true false false h = refl

  short : (x : Option Property) → is_done (at_property x (write_reply r values)) ≡ true → length values ≤ VALUE_LIMIT
  short None h = absurd (cc)
  short (Some p) h =
      let fits : nat_lt VALUE_LIMIT (length values) ≡ false = by_length (is_some r.index) p.writable (is_of_kind p.kind values) (is_out_of_range r values p)
      (nat_lt VALUE_LIMIT (length values)) h in
      grind (arith, nat_tests)

  resized_fits : (n : ℕ) (octets : List ℕ) → n ≤ FILE_LIMIT → length (resized n octets) ≤ FILE_LIMIT
  resized_fits n octets l = rw (length-append, length-take, length-replicate) (grind (arith, nat_tests))

  pub granted_fits : (o : Object) → Simple ≡ at_property (property_in o r.property) (write_reply r values) → Fits (write_effect r values o)
  granted_fits o simple = go (r.property == FILE_SIZE) refl
    where
      in_file : (x : Option File) → IsSize values → Fits (size_effect r.object (size_of values) x)
      in_file None size = tt
      in_file (Some f) size = resized_fits (size_of values) f.octets size.1

      go : (b : Bool) → (r.property == FILE_SIZE) ≡ b
          → Fits (if b then size_effect r.object (size_of values) o.file else StoreEffect.Values r.object r.property values)
      go true e =
          let is : r.property ≡ FILE_SIZE = grind (arith, nat_tests) in
          in_file o.file (granted_size o is simple)
      go false e = short (property_in o r.property) (ap is_done (sym simple))

-- ---- the plan of a granted write

pub write_plan : (s : Store) (r : Reference) (values : List ℕ) (priority : Option ℕ) (o : Object) → IsInOrder s → object_in s r.object ≡ Some o
    → Simple ≡ at_property (property_in o r.property) (write_reply r values)
    → IsPlanFor s (WriteProperty r values priority) (record { reply = Simple; effect = write_effect r values o })
write_plan s r values priority o order found simple = record { reply = sym reply; effect = go (r.property == FILE_SIZE) refl }
  where
    request : Request
    request = WriteProperty r values priority

    reply : reply_to s request ≡ Simple
    reply = rw found (sym simple)

    granted : IsGranted s request
    granted = ap is_done reply

    in_file : (x : Option File) → o.file ≡ x → r.property ≡ FILE_SIZE
        → with_effect (size_effect r.object (size_of values) x) s ≡ with_object r.object (with_octets (resized (size_of values))) s
    in_file None e is =
        let never : Simple ≡ at_property (option_map (file_size o) None) (write_reply r values) = rw (is, e) at simple in
        absurd (cc)
    in_file (Some f) e is =
        same_octets r.object (λ old. resized (size_of values) f.octets) (resized (size_of values)) f refl s order.rise (ap file_of found ∙ e)

    go : (b : Bool) → (r.property == FILE_SIZE) ≡ b
        → with_effect (if b then size_effect r.object (size_of values) o.file else StoreEffect.Values r.object r.property values) s ≡ after s request
    go true e =
        let is : r.property ≡ FILE_SIZE = grind (arith, nat_tests) in
        in_file o.file refl is ∙ sym (after_granted s r values priority granted ∙ size_written r.object r.property values s is)
    go false e =
        let other : r.property ≢ FILE_SIZE = grind (arith, nat_tests) in
        sym (after_granted s r values priority granted ∙ listed_written r.object r.property values s other)
