-- Members of an object, one after the other.
use Rattle.std.proofs.Common.{◌≡◌, ◌-◌, ◌<◌, ◌≤◌, ℕ, true, List, [], ◌∷◌, codes, drop, get_or, length, take, Option, Some, None, arith, refl, subst, ap, ◌∙◌}
use Rattle.std.proofs.lemmas.List.{take_all}
use Rattle.serde_json.specs.Data as json
use Rattle.serde_json.specs.Data.{Data, no_members, put, string}
use Rattle.bac_service.specs.MemberViews.{listed}
use Rattle.bac_service.specs.declared.member.Member as code
use Rattle.bac_json.specs.Members.{Extends, is_whole, members_in}
use Rattle.bac_json.specs.Named.{AreWith, IsNamedForm, IsWithListed}
use Rattle.bac_json.specs.declared.members.Members.{Members}

-- the object has those members that are not left, beside what it had at first, if none was lost
pub record AreAdded (all rest : List (Option code.Member)) (first object : Members) : Type 0 where
  pub whole : is_whole object ≡ true → is_whole first ≡ true
  pub are : is_whole object ≡ true → (end : json.Members) → AreWith (listed rest) (members_in object) end → AreWith (listed all) (members_in first) end

pub none_added : (all : List (Option code.Member)) (first : Members) → AreAdded all all first first
none_added all first = record { whole = λ e. e; are = λ e end are. are }

one_more : (m : Option code.Member) (members : List (Option code.Member)) (before between after : json.Members) → IsWithListed m before between
    → AreWith (listed members) between after → AreWith (listed (m ∷ members)) before after
one_more None members before between after is are = subst (λ (x : json.Members). AreWith (listed members) x after) is are
one_more (Some m) members before between after is are = (between, (is, are))

-- the first of those that are left is added
pub one_added : (all rest : List (Option code.Member)) (m : Option code.Member) → 1 ≤ length rest → m ≡ get_or rest 0 m → (first old new : Members)
    → AreAdded all rest first old → (is_whole new ≡ true → (is_whole old ≡ true) × IsWithListed m (members_in old) (members_in new))
    → AreAdded all (take (length rest - 1) (drop 1 rest)) first new
one_added all [] m some is first old new added with = absurd (omega (arith, some))
one_added all (x ∷ xs) m some is first old new added with =
    let left : take (length (x ∷ xs) - 1) xs ≡ xs = take_all (length (x ∷ xs) - 1) xs (omega arith) in
    record {
      whole = λ e. added.whole (with e).0;
      are = λ e end are.
          added.are (with e).0 end
          (one_more x xs (members_in old) (members_in new) end
          (subst (λ (y : Option code.Member). IsWithListed y (members_in old) (members_in new)) is (with e).1)
          (subst (λ (l : List (Option code.Member)). AreWith (listed l) (members_in new) end) left are));
    }

-- none is left
pub named_form : (name : List ℕ) (all rest : List (Option code.Member)) (empty first object : Members) (d : Data) → length rest < 1
    → members_in empty ≡ no_members → Extends (put (codes "service") (string name)) empty first → AreAdded all rest first object
    → (is_whole object ≡ true) × (d ≡ json.object (members_in object)) → IsNamedForm name (listed all) d
named_form name all (x ∷ xs) empty first object d few none said added is = absurd (omega (arith, few))
named_form name all [] empty first object d few none said added is =
    let start : members_in first ≡ put (codes "service") (string name) no_members
    = (said (added.whole is.0)).1 ∙ ap (put (codes "service") (string name)) none in
    record {
      all = members_in object;
      are = subst (λ (m : json.Members). AreWith (listed all) m (members_in object)) start (added.are is.0 (members_in object) refl);
      is = is.1;
    }
