-- What `write` asks and prints: a property gets a value, and is read back.
use Rattle.std.specs.Prelude.{◌≡◌, ℕ, Bool, true, false, List, [], ◌∷◌, ◌++◌, codes, map, Option, Some, None, Ok, is_some}
use Rattle.std.specs.Borrow.{Bor}
use Rattle.std.specs.Option.{option_map}
use Rattle.std.specs.Str.{bytes_eq}
use Rattle.std.specs.Io.KnownBytes.{Appends}
use Rattle.bac_value.specs.Value.{Datum}
use Rattle.bac_value.specs.Writing.{value_spelling}
use Rattle.bac_value_text.specs.Names.{name_in, number_in}
use Rattle.bac_value_text.specs.Numbers.{◌>>=◌, number_up_to}
use Rattle.bac_value_text.specs.Properties.{PROPERTIES}
use Rattle.bac_npdu.specs.Peers.{PeerView}
use Rattle.bac_service.specs.Values.{Reference, Request, property_asked}
use Rattle.bac_service.specs.Values.Request.{ReadFile, WriteFile, ReadProperty, WriteProperty}
use Rattle.bac_service.specs.Views.{priority_view, property_reference_view}
use Rattle.bac_driver.specs.Asking.{Question}
use Rattle.bac_driver.specs.Runs.{Timed}
use Rattle.bac_driver.specs.Views.{question_view}
use Rattle.bac_driver.specs.declared.question.AskEnd.{AskEnd}
use Rattle.bac_commands.specs.Questions.{question_for}
use Rattle.bac_point_text.specs.declared.kind.Kind.{Kind}
use Rattle.bac_point_report.specs.Lines.{value_line}
use Rattle.bac_point_report.specs.Outcomes.{is_done, values_of}
use Rattle.bac_point_report.specs.Shown.{IsShown}
use Rattle.bac_point_report.specs.Targets.{Target}
use Rattle.bac_point_report.specs.Written.{IsOnlyKind, kind_named, meant}
use Rattle.bac_asking.specs.Clients.{AsksOn}
use Rattle.bac_asking.specs.Online.{HasLooked, IsClient}
use Rattle.bac_asking.specs.Recording.{outcome_of}
use Rattle.bac_asking.specs.declared.asking.Asking.{Asking}
use Rattle.bac_environment.specs.Sockets.{Clocks, Links}
use Rattle.bac_points.specs.Reads.{StopsHere, read_by}
use Rattle.bac_points.specs.declared.task.Writing.{Writing}
use Rattle.bac_points.specs.declared.writing.Order as code

-- ---- what is ordered

-- the text of a property's new value, the priority and the name of the value's kind where they are given, the question that reads the property, and the property
pub record Order : Type 0 where
  pub text : List ℕ
  pub priority : Option ℕ
  pub kind : Option (List ℕ)
  pub reading : Question
  pub reference : Reference

abbrev pub text_given : Option (Bor (List ℕ)) → Option (List ℕ)
text_given name = option_map (λ n. n.now) name

abbrev pub order_view : code.Order → Order
order_view o = record {
  text = o.text.now;
  priority = priority_view o.priority;
  kind = text_given o.kind;
  reading = question_view o.reading;
  reference = property_reference_view o.reference;
}

-- a property by its words, and the text of its new value: OBJECT [PROPERTY] VALUE
abbrev pub ordered_in : (words : List (List ℕ)) → Option (Target × List ℕ)
ordered_in [] = None
ordered_in (object ∷ []) = None
ordered_in (object ∷ text ∷ []) = Some (record { object = object; property = codes "present-value" }, text)
ordered_in (object ∷ property ∷ text ∷ []) = Some (record { object = object; property = property }, text)
ordered_in (object ∷ property ∷ text ∷ word ∷ words) = None

-- the name that the standard gives a property, where a word is its number
abbrev pub name_of_number : (word : List ℕ) → Option (List ℕ)
name_of_number word = number_up_to 4294967295 word >>= name_in PROPERTIES

-- the only word behind the object is the name of a property: its value is missing
abbrev pub lacks_value : (words : List (List ℕ)) → Bool
lacks_value [] = false
lacks_value (object ∷ []) = false
lacks_value (object ∷ word ∷ []) = is_some (number_in PROPERTIES word)
lacks_value (object ∷ word ∷ other ∷ words) = false

-- what the words of a command line order; a property that has a name is given by it, so that no number is written to it that was meant otherwise
pub record IsOrder (peer : PeerView) (writing : Writing) (o : Order) : Type 0 where
  pub target : Target
  pub words : ordered_in (map (λ w. w.now) writing.words.now) ≡ Some (target, o.text)
  pub valued : lacks_value (map (λ w. w.now) writing.words.now) ≡ false
  pub named : name_of_number target.property ≡ None
  pub priority : o.priority ≡ priority_view writing.priority
  pub kind : o.kind ≡ text_given writing.kind
  pub reads : read_by peer target ≡ Some o.reading
  pub property : property_asked o.reading.request ≡ Some o.reference

-- ---- the kind of the new value

-- that of the only value of a property; no kind where no value came
abbrev pub IsKindOf : (values : Option (List ℕ)) → Option Kind → Type 0
IsKindOf None kind = kind ≡ None
IsKindOf (Some run) None = ⊥
IsKindOf (Some run) (Some k) = IsOnlyKind k run

-- the property was read, and has a value of that kind
pub record AsksKind (IsOn : Links) (asking : Asking) (o : Order) (kind : Option Kind) (before after : Timed) : Type 0 where
  pub end : AskEnd
  pub asks : AsksOn IsOn asking o.reading end before after
  pub is : IsKindOf (values_of (ReadProperty o.reference) (outcome_of end)) kind

-- the kind with the given name, and nothing is asked; without a name that of the value that the property has
abbrev pub FindsKindBy : (name : Option (List ℕ)) → Links → Asking → Order → Option Kind → (before after : Timed) → Type 0
FindsKindBy (Some name) IsOn asking o kind before after = StopsHere (kind ≡ kind_named name) before after
FindsKindBy None IsOn asking o kind before after = AsksKind IsOn asking o kind before after

abbrev pub FindsKind : Links → Asking → Order → Option Kind → (before after : Timed) → Type 0
FindsKind IsOn asking o kind before after = FindsKindBy o.kind IsOn asking o kind before after

-- ---- the write

-- the request that writes what the text means as a value of that kind
pub record IsWriting (peer : PeerView) (o : Order) (k : Kind) (q : Question) : Type 0 where
  pub value : Datum
  pub means : meant o.reference k o.text ≡ Ok value
  pub is : q ≡ question_for peer (WriteProperty o.reference (value_spelling value) o.priority)

-- ---- what is printed

-- a request writes the values with these octets
abbrev pub writes_values : Request → (run : List ℕ) → Bool
writes_values (ReadFile file access) run = false
writes_values (WriteFile file access) run = false
writes_values (ReadProperty r) run = false
writes_values (WriteProperty r values priority) run = bytes_eq values run

-- the line of another value that reads back
abbrev pub differs_line : (value : List ℕ) → List ℕ
differs_line value = codes "written, but now " ++ value_line None value

pub record PrintsOther (r : Reference) (run : List ℕ) (old new : Option (List ℕ)) : Type 0 where
  pub value : List ℕ
  pub is : IsShown r run value
  pub prints : Appends old new (differs_line value)

abbrev pub PrintsFound : (is_written : Bool) → Reference → (run : List ℕ) → (old new : Option (List ℕ)) → Type 0
PrintsFound true r run old new = Appends old new (codes "written\n")
PrintsFound false r run old new = PrintsOther r run old new

-- what reads back: what that request wrote, another value, or nothing
abbrev pub PrintsBack : (written : Request) → Reference → (values : Option (List ℕ)) → (old new : Option (List ℕ)) → Type 0
PrintsBack written r None old new = Appends old new (codes "written\n")
PrintsBack written r (Some run) old new = PrintsFound (writes_values written run) r run old new

-- ---- the whole

-- the property was read back, and that was printed
pub record ReadsBack (IsOn : Links) (asking : Asking) (o : Order) (written : Request) (before after : Timed) (old new : Option (List ℕ)) : Type 0 where
  pub end : AskEnd
  pub asks : AsksOn IsOn asking o.reading end before after
  pub prints : PrintsBack written o.reference (values_of (ReadProperty o.reference) (outcome_of end)) old new

-- it is read back where the write was performed; otherwise nothing more is asked or printed
abbrev pub FollowsWrite : (performed : Bool) → Links → Asking → Order → (written : Request) → (before after : Timed) → (old new : Option (List ℕ)) → Type 0
FollowsWrite true IsOn asking o written before after old new = ReadsBack IsOn asking o written before after old new
FollowsWrite false IsOn asking o written before after old new = StopsHere (new ≡ old) before after

-- one write was asked
pub record WritesOnce (IsOn : Links) (asking : Asking) (o : Order) (q : Question) (done : Bool) (before after : Timed) (old new : Option (List ℕ)) : Type 0 where
  pub end : AskEnd
  pub middle : Timed
  pub asks : AsksOn IsOn asking q end before middle
  pub whether : done ≡ is_done (outcome_of end)
  pub follows : FollowsWrite done IsOn asking o q.request middle after old new

-- one write, of what the text means as a value of that kind
pub record WritesKind (IsOn : Links) (asking : Asking) (peer : PeerView) (o : Order) (k : Kind) (done : Bool) (before after : Timed)
    (old new : Option (List ℕ)) : Type 0 where
  pub question : Question
  pub is : IsWriting peer o k question
  pub writes : WritesOnce IsOn asking o question done before after old new

-- without a kind none was asked
abbrev pub WritesAs : Links → Asking → PeerView → Order → Option Kind → (done : Bool) → (before after : Timed) → (old new : Option (List ℕ)) → Type 0
WritesAs IsOn asking peer o None done before after old new = StopsHere ((done ≡ false) × (new ≡ old)) before after
WritesAs IsOn asking peer o (Some k) done before after old new = WritesKind IsOn asking peer o k done before after old new

-- a client found the kind, and wrote
pub record WritesOrder (IsOn : Links) (asking : Asking) (peer : PeerView) (o : Order) (done : Bool) (before after : Timed) (old new : Option (List ℕ)) :
    Type 0 where
  pub kind : Option Kind
  pub middle : Timed
  pub finds : FindsKind IsOn asking o kind before middle
  pub writes : WritesAs IsOn asking peer o kind done middle after old new

-- a client at any port did
pub record WritesByClient (IsOn : Links) (IsClock : Clocks) (asking : Asking) (peer : PeerView) (o : Order) (done : Bool) (old new : Option (List ℕ)) : Type 0 where
  pub before : Timed
  pub after : Timed
  pub client : IsClient IsOn asking.host before
  pub clock : HasLooked IsClock before.told
  pub writes : WritesOrder IsOn asking peer o done before after old new

-- a client did what the words order: the kind of the new value is found, one write is asked, and the property read back where that was performed;
-- whether it was performed
pub record Writes (IsOn : Links) (IsClock : Clocks) (asking : Asking) (peer : PeerView) (writing : Writing) (done : Bool) (old new : Option (List ℕ)) :
    Type 0 where
  pub order : Order
  pub is : IsOrder peer writing order
  pub writes : WritesByClient IsOn IsClock asking peer order done old new
