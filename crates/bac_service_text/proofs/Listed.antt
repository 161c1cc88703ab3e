-- Members that are printed one after the other, and a line of them.
use Rattle.std.proofs.Common.{◌≡◌, ◌++◌, ℕ, ◌-◌, ◌<◌, ◌≤◌, Bool, List, [], ◌∷◌, drop, get_or, length, take, Option, Some, None, Result, Ok, Err, OnOk, arith, refl, subst}
use Rattle.std.proofs.lemmas.List.{take_all}
use Rattle.bac_service.specs.Members.{◌⨾◌}
use Rattle.bac_service.specs.MemberViews.{listed, member_view}
use Rattle.bac_service.specs.declared.member.Member as code
use Rattle.std.specs.Io.KnownBytes.{Appends}
use Rattle.bac_service_text.specs.Members.{Is, line_end, AppendsLine, AppendsText, AreMembers, IsListed, IsMember}
use Rattle.bac_service_text.proofs.Appending.{both, joined, line_after, line_is, no_line}

-- one of a list, where there is one, and the others
one_more : (in_words : Bool) (m : Option code.Member) (members : List (Option code.Member)) (a b d : Option (List ℕ))
    → AppendsText a b (IsListed in_words m) → AppendsText b d (AreMembers in_words (listed members)) → AppendsText a d (AreMembers in_words (listed (m ∷ members)))
one_more in_words None members a b d p q =
    (q.0, (q.1.0, subst (λ (t : List ℕ). Appends a d (t ++ q.0)) p.1.0 (joined a b d p.0 q.0 p.1.1 q.1.1)))
one_more in_words (Some m) members a b d p q = both a b d (IsMember in_words (member_view m)) (AreMembers in_words (listed members)) p q

-- the first of those that are left, and the others
pub member_more : (in_words : Bool) (rest : List (Option code.Member)) (m : Option code.Member) → 1 ≤ length rest → m ≡ get_or rest 0 m
    → (a b d : Option (List ℕ)) → AppendsText a b (IsListed in_words m)
    → AppendsText b d (AreMembers in_words (listed (take (length rest - 1) (drop 1 rest)))) → AppendsText a d (AreMembers in_words (listed rest))
member_more in_words [] m some is a b d p q = absurd (omega (arith, some))
member_more in_words (x ∷ xs) m some is a b d p q =
    let all : take (length (x ∷ xs) - 1) xs ≡ xs = take_all (length (x ∷ xs) - 1) xs (omega arith) in
    one_more in_words x xs a b d (subst (λ (y : Option code.Member). AppendsText a b (IsListed in_words y)) is p)
    (subst (λ (l : List (Option code.Member)). AppendsText b d (AreMembers in_words (listed l))) all q)

-- none is left
pub all_printed : (in_words : Bool) (all rest : List (Option code.Member)) (a b : Option (List ℕ)) → length rest < 1
    → ((end : Option (List ℕ)) → AppendsText b end (AreMembers in_words (listed rest)) → AppendsText a end (AreMembers in_words (listed all)))
    → AppendsText a b (AreMembers in_words (listed all))
all_printed in_words all [] a b few so_far = so_far b (no_line b)
all_printed in_words all (x ∷ xs) a b few so_far = absurd (omega (arith, few))

-- a name, the members, and the end of the line
pub line_of : {T E : Type 0} (r : Result T E) (a b c d : Option (List ℕ)) (name : List ℕ) (Members : List ℕ → Type 0) → Appends a b name
    → AppendsText b c Members → OnOk r (Appends c d line_end) → OnOk r (AppendsLine a d (Is name ⨾ Members))
line_of r a b c d name Members p q end = line_after r a c d (Is name ⨾ Members) (both a b c (Is name) Members (line_is a b name p) q) end
