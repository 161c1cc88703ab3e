-- Of words that are no request: the first bad one from the left, and what was wanted in its place.
use Rattle.std.specs.Prelude.{ℕ, Bool, true, false, is_some, List, [], ◌∷◌, ◌++◌, codes, if◌then◌else◌, Option, Some, None}
use Rattle.bac_value.specs.Value.{ObjectId}
use Rattle.bac_value_text.specs.Numbers.{number_of, signed_of, octets_of}
use Rattle.bac_value_text.specs.Reading.{object_of}
use Rattle.bac_service_text.specs.Dispatch.{no_verb, roles_of, takes_values}
use Rattle.bac_service_text.specs.References.{reference_of}
use Rattle.bac_service_text.specs.WriteProperty.{values_in_word, priority_of, priority_word}
use Rattle.bac_service_text.specs.declared.bad_words.Wanted.{Wanted}
use Rattle.bac_service_text.specs.declared.bad_words.Wanted.TheVariants as wanted

-- what was wanted, and the word that stands there, if one does
abbrev pub Bad : Type 0
Bad = Wanted × Option (List ℕ)

-- any object: whether a word names a property does not depend on it
abbrev pub some_object : ObjectId
some_object = record { kind = 0; instance = 0 }

-- the word is what was wanted; only roles of a single word are asked for
abbrev pub fits : Wanted → List ℕ → Bool
fits wanted.Verb word = is_some (roles_of word)
fits wanted.Object word = is_some (object_of word)
fits wanted.Property word = is_some (reference_of some_object word)
fits wanted.Value word = is_some (values_in_word word)
fits wanted.Data word = is_some (values_in_word word)
fits wanted.Priority word = is_some (priority_of word)
fits wanted.Octets word = is_some (octets_of word)
fits wanted.Position word = is_some (signed_of word)
fits wanted.Count word = is_some (number_of word)
fits wanted.End word = false

-- where each value is right alone, they are no data together
abbrev pub bad_priority : (first number : List ℕ) → Bad
bad_priority first number = if fits wanted.Priority number then (wanted.Data, Some first) else (wanted.Priority, Some number)

abbrev pub bad_or_others : Bool → (word : List ℕ) → (others : Bad) → Bad
bad_or_others true word others = others
bad_or_others false word others = (wanted.Value, Some word)

abbrev pub bad_prioritized : (first word : List ℕ) → (priority : Option (List ℕ)) → (others : Bad) → Bad
bad_prioritized first word None others = bad_or_others (fits wanted.Value word) word others
bad_prioritized first word (Some number) others = bad_priority first number

-- of the values behind the first one, and a priority
abbrev pub bad_behind : (first : List ℕ) → List (List ℕ) → Bad
bad_behind first [] = (wanted.Data, Some first)
bad_behind first (word ∷ words) = bad_prioritized first word (priority_word (word ∷ words)) (bad_behind first words)

-- of the values of a request to write
abbrev pub bad_values : List (List ℕ) → Option Bad
bad_values [] = Some (wanted.Value, None)
bad_values (first ∷ words) = Some (bad_or_others (fits wanted.Value first) first (bad_behind first words))

-- what stands behind the words of other requests
abbrev pub bad_end : List (List ℕ) → Option Bad
bad_end [] = None
bad_end (word ∷ words) = Some (wanted.End, Some word)

abbrev pub bad_rest : (are_values : Bool) → List (List ℕ) → Option Bad
bad_rest true words = bad_values words
bad_rest false words = bad_end words

-- of words that have to be these, one after the other, and of what stands behind them
abbrev pub bad_among : (are_values : Bool) → List Wanted → List (List ℕ) → Option Bad
bad_among are_values [] words = bad_rest are_values words
bad_among are_values (role ∷ roles) [] = Some (role, None)
bad_among are_values (role ∷ roles) (word ∷ words) = if fits role word then bad_among are_values roles words else Some (role, Some word)

abbrev pub bad_by_verb : (verb : List ℕ) → Option (List Wanted) → List (List ℕ) → Option Bad
bad_by_verb verb None words = Some (wanted.Verb, Some verb)
bad_by_verb verb (Some roles) words = bad_among (takes_values verb) roles words

-- the first bad word; none where each word alone is right, and the request as a whole is too long
abbrev pub bad_word_of : List (List ℕ) → Option Bad
bad_word_of [] = Some (wanted.Verb, None)
bad_word_of (verb ∷ words) = bad_by_verb verb (roles_of verb) words

-- ---- texts

abbrev pub role_name : Wanted → List ℕ
role_name wanted.Verb = codes "request"
role_name wanted.Object = codes "object"
role_name wanted.Property = codes "property"
role_name wanted.Value = codes "value"
role_name wanted.Data = codes "values from"
role_name wanted.Priority = codes "priority"
role_name wanted.Octets = codes "octets"
role_name wanted.Position = codes "position"
role_name wanted.Count = codes "count"
role_name wanted.End = codes "argument"

abbrev pub role_fault : Wanted → List ℕ
role_fault wanted.Verb = no_verb
role_fault wanted.Object = codes "is not TYPE:INSTANCE, each by name or number"
role_fault wanted.Property = codes "is not a valid name or number"
role_fault wanted.Value = codes "is not a valid value or hexadecimal"
role_fault wanted.Data = codes "on do not form valid data"
role_fault wanted.Priority = codes "is not a number from 1 to 16"
role_fault wanted.Octets = codes "are not valid hexadecimal"
role_fault wanted.Position = codes "is not a number"
role_fault wanted.Count = codes "is not a number"
role_fault wanted.End = codes "is one too many"

abbrev pub bad_word_text : Bad → List ℕ
bad_word_text (role, None) = role_name role ++ codes " is missing"
bad_word_text (role, Some word) = role_name role ++ (codes " \"" ++ (word ++ (codes "\" " ++ role_fault role)))
