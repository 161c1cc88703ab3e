-- Texts from their parts.
use Rattle.std.proofs.Common.{◌≡◌, subst, ◌∙◌, ◌++◌, ◌-◌, ℕ, List, codes, decimal, IfOk, Result, Ok, Err}
use Rattle.bac_explain.specs.declared.step.Step.{Step}
use Rattle.bac_explain.specs.Keys.{Key}
use Rattle.bac_explain.specs.Tables.{ClosedView}
use Rattle.bac_explain_html.specs.Pictures.{IsAskedText, IsPicture, arrow, arrow_front, arrows, heading, mark, role_words}
use Rattle.bac_explain_html.specs.Rows.{AreWordCells, IsEntry, entry_front, key_cells, row_end}

-- what follows from a fact of a result where it is Ok
pub if_ok : {A E : Type 0} (r : Result A E) (P Q : A → Type 0) → ((a : A) → P a → Q a) → IfOk r P → IfOk r Q
if_ok (Ok a) P Q f h = f a h
if_ok (Err e) P Q f h = h

-- five texts, each by another that equals it
pub five_told : (text a b d e f a' b' d' e' f' : List ℕ) → text ≡ a ++ (b ++ (d ++ (e ++ f))) → a ≡ a' → b ≡ b' → d ≡ d' → e ≡ e' → f ≡ f'
    → text ≡ a' ++ (b' ++ (d' ++ (e' ++ f')))
five_told text a b d e f a' b' d' e' f' is pa pb pd pe pf = is ∙ (λ i. pa i ++ (pb i ++ (pd i ++ (pe i ++ pf i))))

pub six_told : (text a b d e f h a' b' d' e' f' h' : List ℕ) → text ≡ a ++ (b ++ (d ++ (e ++ (f ++ h)))) → a ≡ a' → b ≡ b' → d ≡ d' → e ≡ e' → f ≡ f'
    → h ≡ h' → text ≡ a' ++ (b' ++ (d' ++ (e' ++ (f' ++ h'))))
six_told text a b d e f h a' b' d' e' f' h' is pa pb pd pe pf ph = is ∙ (λ i. pa i ++ (pb i ++ (pd i ++ (pe i ++ (pf i ++ ph i)))))

pub seven_told : (text a b d e f h k a' b' d' e' f' h' k' : List ℕ) → text ≡ a ++ (b ++ (d ++ (e ++ (f ++ (h ++ k))))) → a ≡ a' → b ≡ b' → d ≡ d' → e ≡ e'
    → f ≡ f' → h ≡ h' → k ≡ k' → text ≡ a' ++ (b' ++ (d' ++ (e' ++ (f' ++ (h' ++ k')))))
seven_told text a b d e f h k a' b' d' e' f' h' k' is pa pb pd pe pf ph pk = is ∙ (λ i. pa i ++ (pb i ++ (pd i ++ (pe i ++ (pf i ++ (ph i ++ pk i))))))

pub arrow_told : (asked : ℕ) (s : Step) (text front words end : List ℕ) (after : ℕ) → front ≡ arrow_front s.role → words ≡ role_words s.role
    → end ≡ mark s.finding → after ≡ s.moment - asked
    → text ≡ front ++ (codes "+" ++ (decimal after ++ (codes " ms, frame " ++ (decimal s.frame ++ (codes ": " ++ (words ++ (codes "</text></svg>"
    ++ (end ++ codes "\n"))))))))
    → text ≡ arrow asked s
arrow_told asked s text front words end after pf pw pe pa is =
    is ∙ (λ i. pf i ++ (codes "+" ++ (decimal (pa i) ++ (codes " ms, frame " ++ (decimal s.frame ++ (codes ": " ++ (pw i ++ (codes "</text></svg>"
    ++ (pe i ++ codes "\n")))))))))

pub picture_told : (k : Key) (asked : ℕ) (steps : List Step) (text front when head all : List ℕ) → IsAskedText asked when → head ≡ heading k
    → all ≡ arrows asked steps → front ≡ codes "<details><summary>asked " ++ (when ++ (codes "</summary>\n" ++ head))
    → text ≡ (front ++ all) ++ codes "</details>" → IsPicture k asked steps text
picture_told k asked steps text front when head all is_when ph pa pf is = record {
  when = when;
  is_when = is_when;
  is = is ∙ (λ i. (pf i ++ pa i) ++ codes "</details>")
      ∙ (λ i. ((codes "<details><summary>asked " ++ (when ++ (codes "</summary>\n" ++ ph i))) ++ arrows asked steps) ++ codes "</details>");
}

-- a text with a part added to it, each by another that equals it
pub added : (longer text part text' part' : List ℕ) → longer ≡ text ++ part → text ≡ text' → part ≡ part' → longer ≡ text' ++ part'
added longer text part text' part' is pt pp = is ∙ (λ i. pt i ++ pp i)

pub entry_told : (c : ClosedView) (text front key words end picture : List ℕ) (steps : List Step) → front ≡ entry_front c.transaction → key ≡ key_cells c.key
    → AreWordCells c.transaction words → end ≡ row_end c.transaction → steps ≡ c.transaction.steps
    → IsPicture c.key c.transaction.request.moment steps picture
    → text ≡ (((((front ++ key) ++ words) ++ end) ++ codes "</tr><tr class=\"p\"><td colspan=\"9\">") ++ picture) ++ codes "</td></tr></tbody>\n"
    → IsEntry c text
entry_told c text front key words end picture steps pf pk are pe ps is_picture is = record {
  words = words;
  are = are;
  picture = picture;
  is_picture = subst (λ (s : List Step). IsPicture c.key c.transaction.request.moment s picture) ps is_picture;
  is = is ∙ (λ i. (((((pf i ++ pk i) ++ words) ++ pe i) ++ codes "</tr><tr class=\"p\"><td colspan=\"9\">") ++ picture) ++ codes "</td></tr></tbody>\n");
}
