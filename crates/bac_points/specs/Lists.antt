-- What `points` asks, and whether each property came.
use Rattle.std.specs.Prelude.{◌≡◌, ◌⊎◌, ℕ, ◌+◌, ◌^◌, ◌-◌, min, Bool, true, false, ◌&&◌, ◌||◌, List, [], ◌∷◌, ◌++◌, map, Option, Some, None}
use Rattle.std.specs.List.{flat_map, list_any, range_with_len}
use Rattle.bac_value.specs.Value.{ObjectId}
use Rattle.bac_value.specs.Views.{object_identifier_view}
use Rattle.bac_npdu.specs.Peers.{PeerView}
use Rattle.bac_service.specs.Values.{Reference}
use Rattle.bac_service.specs.Values.Request.{ReadProperty}
use Rattle.bac_driver.specs.Asking.{Question}
use Rattle.bac_driver.specs.Runs.{Timed}
use Rattle.bac_driver.specs.declared.question.AskEnd.{AskEnd}
use Rattle.bac_commands.specs.Questions.{question_for}
use Rattle.bac_environment.specs.declared.question_lines.LineQuestion.{LineQuestion}
use Rattle.bac_point_report.specs.Listing.{AreObjectsOf, IsNoNumberOf, IsNumberOf, IsStep}
use Rattle.bac_point_report.specs.Outcomes.{has_values, is_silent}
use Rattle.bac_point_report.specs.Points.{is_absent, point_references}
use Rattle.bac_point_report.specs.declared.listing.ListStep.{ListStep}
use Rattle.bac_point_report.specs.declared.listing.ListStep.TheVariants as step
use Rattle.bac_asking.specs.Clients.{AsksOn}
use Rattle.bac_asking.specs.Gathering.{Gathers}
use Rattle.bac_asking.specs.Online.{HasLooked, IsClient}
use Rattle.bac_asking.specs.Recording.{outcome_of}
use Rattle.bac_asking.specs.declared.asking.Asking.{Asking}
use Rattle.bac_environment.specs.Sockets.{Clocks, Links}
use Rattle.bac_points.specs.Reads.{StopsHere, WINDOW, asked_of, question_in}

-- ---- properties, several asked at once

-- these properties were asked for, and so the asks ended
pub record AsksBatch (IsOn : Links) (asking : Asking) (peer : PeerView) (references : List Reference) (ends : List AskEnd) (before after : Timed) : Type 0 where
  pub lines : List LineQuestion
  pub are : map question_in lines ≡ map (asked_of peer) references
  pub gathers : Gathers IsOn asking WINDOW lines ends before after

-- properties, and how the asks for them ended
pub record Batch : Type 0 where
  pub references : List Reference
  pub ends : List AskEnd

-- that was asked after what was asked earlier
pub record AsksNext (AsksEarlier AsksLast : (before after : Timed) → Type 0) (before after : Timed) : Type 0 where
  pub middle : Timed
  pub earlier : AsksEarlier before middle
  pub last : AsksLast middle after

-- batches were asked, one after the other; the newest stands first
abbrev pub AsksBatches : Links → Asking → PeerView → List Batch → (before after : Timed) → Type 0
AsksBatches IsOn asking peer [] before after = after ≡ before
AsksBatches IsOn asking peer (b ∷ earlier) before after =
    AsksNext (AsksBatches IsOn asking peer earlier) (AsksBatch IsOn asking peer b.references b.ends) before after

-- all that was asked for, in that order
abbrev pub references_in : List Batch → List Reference
references_in [] = []
references_in (b ∷ earlier) = references_in earlier ++ b.references

-- ---- the objects

-- the object-list of a device, or an element of it
abbrev pub list_of : (device : ObjectId) → (index : Option ℕ) → Reference
list_of device index = record { object = device; property = 76; index = index }

abbrev pub question_of : PeerView → Reference → Question
question_of peer r = question_for peer (ReadProperty r)

abbrev pub element_behind : (device : ObjectId) → (behind : ℕ) → Reference
element_behind device behind = list_of device (Some (behind + 1))

-- so many elements of the list, behind so many
abbrev pub elements : (device : ObjectId) → (behind count : ℕ) → List Reference
elements device behind count = map (element_behind device) (range_with_len behind count)

-- some objects are the first, and others follow
pub record AreJoined (AreFirst AreOthers : List ObjectId → Type 0) (objects : List ObjectId) : Type 0 where
  pub first : List ObjectId
  pub others : List ObjectId
  pub are : objects ≡ first ++ others
  pub came : AreFirst first
  pub more : AreOthers others

-- each element was answered with objects: these, in that order
abbrev pub AreFound : List Reference → List AskEnd → List ObjectId → Type 0
AreFound [] ends objects = objects ≡ []
AreFound (r ∷ references) [] objects = ⊥
AreFound (r ∷ references) (end ∷ ends) objects = AreJoined (AreObjectsOf r (outcome_of end)) (AreFound references ends) objects

-- an element was not answered with objects
abbrev pub AreLacking : List Reference → List AskEnd → Type 0
AreLacking references ends = (objects : List ObjectId) → AreFound references ends objects → ⊥

-- their objects stand behind others
pub record Adds (references : List Reference) (ends : List AskEnd) (old new : List ObjectId) : Type 0 where
  pub found : List ObjectId
  pub are : new ≡ old ++ found
  pub each : AreFound references ends found

-- each came, or one did not
abbrev pub FollowsBatch : (came : Bool) → List Reference → List AskEnd → (old new : List ObjectId) → Type 0
FollowsBatch true references ends old new = Adds references ends old new
FollowsBatch false references ends old new = AreLacking references ends

-- elements were read; whether each came
pub record AddsBatch (IsOn : Links) (asking : Asking) (peer : PeerView) (references : List Reference) (came : Bool) (old new : List ObjectId)
    (before after : Timed) : Type 0 where
  pub ends : List AskEnd
  pub asks : AsksBatch IsOn asking peer references ends before after
  pub follows : FollowsBatch came references ends old new

-- those of batches
abbrev pub AreFoundIn : List Batch → List ObjectId → Type 0
AreFoundIn [] objects = objects ≡ []
AreFoundIn (b ∷ earlier) objects = AreJoined (AreFoundIn earlier) (AreFound b.references b.ends) objects

-- so many elements were read, in batches, and each was answered with objects
pub record ElementsCame (IsOn : Links) (asking : Asking) (peer : PeerView) (device : ObjectId) (count : ℕ) (objects : List ObjectId) (before after : Timed) :
    Type 0 where
  pub batches : List Batch
  pub asks : AsksBatches IsOn asking peer batches before after
  pub are : references_in batches ≡ elements device 0 count
  pub found : AreFoundIn batches objects

-- those of the first batches were, and of the next one an element was not: no more were read
pub record ElementLacked (IsOn : Links) (asking : Asking) (peer : PeerView) (device : ObjectId) (count : ℕ) (before after : Timed) : Type 0 where
  pub batches : List Batch
  pub last : Batch
  pub unread : List Reference
  pub asks : AsksBatches IsOn asking peer (last ∷ batches) before after
  pub are : references_in (last ∷ batches) ++ unread ≡ elements device 0 count
  pub lacks : AreLacking last.references last.ends

abbrev pub ReadsElements : Links → Asking → PeerView → (device : ObjectId) → (count : ℕ) → (objects : Option (List ObjectId)) → (before after : Timed) → Type 0
ReadsElements IsOn asking peer device count (Some objects) before after = ElementsCame IsOn asking peer device count objects before after
ReadsElements IsOn asking peer device count None before after = ElementLacked IsOn asking peer device count before after

-- an array has at most so many elements
abbrev pub MOST : ℕ
MOST = 2 ^ 32 - 1

-- that number was told
pub record IsTold (r : Reference) (end : AskEnd) (count : ℕ) : Type 0 where
  pub number : ℕ
  pub is : IsNumberOf r (outcome_of end) number
  pub least : count ≡ min number MOST

-- the number of elements that was told, or none was
abbrev pub IsCount : Reference → AskEnd → (count : Option ℕ) → Type 0
IsCount r end (Some count) = IsTold r end count
IsCount r end None = IsNoNumberOf r (outcome_of end)

abbrev pub FollowsCount : (count : Option ℕ) → Links → Asking → PeerView → (device : ObjectId) → (objects : Option (List ObjectId)) → (before after : Timed)
    → Type 0
FollowsCount (Some count) IsOn asking peer device objects before after = ReadsElements IsOn asking peer device count objects before after
FollowsCount None IsOn asking peer device objects before after = StopsHere (objects ≡ None) before after

-- the number of elements was read
pub record AsksCount (IsOn : Links) (asking : Asking) (peer : PeerView) (device : ObjectId) (count : Option ℕ) (before after : Timed) : Type 0 where
  pub end : AskEnd
  pub asks : AsksOn IsOn asking (question_of peer (list_of device (Some 0))) end before after
  pub is : IsCount (list_of device (Some 0)) end count

-- and then the elements
pub record ReadsInParts (IsOn : Links) (asking : Asking) (peer : PeerView) (device : ObjectId) (objects : Option (List ObjectId)) (before after : Timed) :
    Type 0 where
  pub count : Option ℕ
  pub middle : Timed
  pub asks : AsksCount IsOn asking peer device count before middle
  pub follows : FollowsCount count IsOn asking peer device objects middle after

-- by how the read of the list as a whole ended: the objects, element by element, or none
abbrev pub FollowsList : ListStep → Links → Asking → PeerView → (device : ObjectId) → (objects : Option (List ObjectId)) → (before after : Timed) → Type 0
FollowsList (step.Objects found) IsOn asking peer device objects before after =
    StopsHere (objects ≡ Some (map object_identifier_view found.items)) before after
FollowsList step.InParts IsOn asking peer device objects before after = ReadsInParts IsOn asking peer device objects before after
FollowsList step.Failed IsOn asking peer device objects before after = StopsHere (objects ≡ None) before after

pub record FollowsRead (IsOn : Links) (asking : Asking) (peer : PeerView) (device : ObjectId) (end : AskEnd) (objects : Option (List ObjectId))
    (before after : Timed) : Type 0 where
  pub next : ListStep
  pub is : IsStep (list_of device None) (outcome_of end) next
  pub follows : FollowsList next IsOn asking peer device objects before after

-- the list was read as a whole, and in parts where it did not come so
pub record ReadsList (IsOn : Links) (asking : Asking) (peer : PeerView) (device : ObjectId) (objects : Option (List ObjectId)) (before after : Timed) :
    Type 0 where
  pub end : AskEnd
  pub middle : Timed
  pub asks : AsksOn IsOn asking (question_of peer (list_of device None)) end before middle
  pub follows : FollowsRead IsOn asking peer device end objects middle after

-- ---- the table

-- what the columns of objects are read from
abbrev pub columns : List ObjectId → List Reference
columns objects = flat_map point_references objects

-- the values came, or the object has no such property
abbrev pub has_come : Reference → AskEnd → Bool
has_come r end = has_values (ReadProperty r) (outcome_of end) || is_absent (outcome_of end)

abbrev pub have_come : List Reference → List AskEnd → Bool
have_come [] ends = true
have_come (r ∷ references) [] = false
have_come (r ∷ references) (end ∷ ends) = has_come r end && have_come references ends

abbrev pub all_have_come : List Batch → Bool
all_have_come [] = true
all_have_come (b ∷ earlier) = all_have_come earlier && have_come b.references b.ends

-- an ask got no answer
abbrev pub any_silent : List AskEnd → Bool
any_silent ends = list_any (λ end. is_silent (outcome_of end)) ends

-- the last batch had one
abbrev pub ends_silent : List Batch → Bool
ends_silent [] = false
ends_silent (b ∷ earlier) = any_silent b.ends

-- some columns were asked for; whether each came, and whether an ask got no answer
pub record AsksColumns (IsOn : Links) (asking : Asking) (peer : PeerView) (references : List Reference) (is_whole is_silent : Bool) (before after : Timed) :
    Type 0 where
  pub ends : List AskEnd
  pub asks : AsksBatch IsOn asking peer references ends before after
  pub whole : is_whole ≡ have_come references ends
  pub silent : is_silent ≡ any_silent ends

-- the columns of all objects were asked for, in batches, until one got no answer; whether each came that was asked for
pub record ReadsColumns (IsOn : Links) (asking : Asking) (peer : PeerView) (objects : List ObjectId) (all : Bool) (before after : Timed) : Type 0 where
  pub batches : List Batch
  pub unread : List ObjectId
  pub asks : AsksBatches IsOn asking peer batches before after
  pub are : references_in batches ++ columns unread ≡ columns objects
  pub whether : all ≡ all_have_come batches
  pub stops : (unread ≡ []) ⊎ (ends_silent batches ≡ true)

abbrev pub ReadsTable : Links → Asking → PeerView → (objects : Option (List ObjectId)) → (all : Bool) → (before after : Timed) → Type 0
ReadsTable IsOn asking peer (Some objects) all before after = ReadsColumns IsOn asking peer objects all before after
ReadsTable IsOn asking peer None all before after = StopsHere (all ≡ false) before after

-- a client read the objects, and then their columns
pub record ReadsPoints (IsOn : Links) (asking : Asking) (peer : PeerView) (device : ObjectId) (all : Bool) (before after : Timed) : Type 0 where
  pub objects : Option (List ObjectId)
  pub middle : Timed
  pub list : ReadsList IsOn asking peer device objects before middle
  pub table : ReadsTable IsOn asking peer objects all middle after

-- a client at any port did
pub record Lists (IsOn : Links) (IsClock : Clocks) (asking : Asking) (peer : PeerView) (device : ObjectId) (all : Bool) : Type 0 where
  pub before : Timed
  pub after : Timed
  pub client : IsClient IsOn asking.host before
  pub clock : HasLooked IsClock before.told
  pub reads : ReadsPoints IsOn asking peer device all before after
