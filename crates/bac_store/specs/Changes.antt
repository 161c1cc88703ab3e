-- The store after a request.
use Rattle.std.specs.Prelude.{◌≡◌, ℕ, ◌+◌, ◌-◌, ◌≤◌, Bool, true, false, ◌==◌, List, ◌++◌, length, map, take, replicate, IfSome, if◌then◌else◌}
use Rattle.std.specs.Option.{option_map}
use Rattle.bac_value.specs.Value.{ObjectId}
use Rattle.bac_service.specs.Values.{Request, for_file}
use Rattle.bac_service.specs.Replies.{Reply, held_by}
use Rattle.bac_service.specs.Values.WriteAccess.{WriteStream, WriteRecords}
use Rattle.bac_service.specs.Values.Request.{ReadFile, WriteFile, ReadProperty, WriteProperty}
use Rattle.bac_service.specs.Replies.Reply.{Simple, Complex, Error, Reject}
use Rattle.bac_store.specs.Limits.{FILE_LIMIT, FILE_SIZE}
use Rattle.bac_store.specs.Ranks.{place_or_zero, rank_of}
use Rattle.bac_store.specs.Stores.{Store, Object, Property, File, is_object, is_number, object_in}
use Rattle.bac_store.specs.Replies.{file_of, reply_to, written}

-- the list, with a change to each element that passes a test
abbrev pub where_that : {A : Type 0} → (A → Bool) → (A → A) → List A → List A
where_that test change xs = map (λ x. if test x then change x else x) xs

-- that object changed, the others unchanged
abbrev pub with_object : ObjectId → (Object → Object) → Store → Store
with_object id change s = where_that (is_object id) change s

-- new values for a listed property
abbrev pub with_own_values : List ℕ → Property → Property
with_own_values values p = record p { values = values }

abbrev pub with_values : ℕ → List ℕ → Object → Object
with_values n values o = record o { properties = where_that (is_number n) (with_own_values values) o.properties }

-- new octets for a file
abbrev pub with_contents : (List ℕ → List ℕ) → File → File
with_contents change f = record f { octets = change f.octets }

abbrev pub with_octets : (List ℕ → List ℕ) → Object → Object
with_octets change o = record o { file = option_map (with_contents change) o.file }

-- the number of octets in the values of a file-size
abbrev pub size_of : List ℕ → ℕ
size_of values = place_or_zero (rank_of values)

-- the values are the size of a file
abbrev pub IsSize : List ℕ → Type 0
IsSize values = (1 ≤ length values) × (size_of values ≤ FILE_LIMIT)

-- so many octets: the first ones, or all and zeros behind them
abbrev pub resized : ℕ → List ℕ → List ℕ
resized n octets = take n octets ++ replicate (n - length octets) 0

-- new values for a property: those of a file-size cut the file or make it longer
abbrev pub with_written : ℕ → List ℕ → Object → Object
with_written n values o = if n == FILE_SIZE then with_octets (resized (size_of values)) o else with_values n values o

-- an Error changes nothing
abbrev pub is_done : Reply → Bool
is_done Simple = true
is_done (Complex c) = true
is_done (Error class code) = false
is_done (Reject reason) = false

-- no case of the tables applies to the request: its reply is not an Error
abbrev pub IsGranted : Store → Request → Type 0
IsGranted s r = is_done (reply_to s r) ≡ true

-- the reply to the request, or its change, contains octets: only then it allocates
abbrev pub HoldsOctets : Store → Request → Type 0
HoldsOctets s (ReadFile id access) = 1 ≤ length (held_by (reply_to s (ReadFile id access)))
HoldsOctets s (WriteFile id access) = IfSome (file_of (object_in s id)) (λ f. 1 ≤ length f.octets + length (for_file access))
HoldsOctets s (ReadProperty r) = 1 ≤ length (held_by (reply_to s (ReadProperty r)))
HoldsOctets s (WriteProperty r values priority) = 1 ≤ length values

-- the effect of a request that is performed
abbrev pub done : Request → Store → Store
done (ReadFile id access) s = s
done (WriteFile id (WriteRecords start count run)) s = s
done (WriteFile id (WriteStream start octets)) s = with_object id (with_octets (written start octets)) s
done (ReadProperty r) s = s
done (WriteProperty r values priority) s = with_object r.object (with_written r.property values) s

-- the store after a request
abbrev pub after : Store → Request → Store
after s r = if is_done (reply_to s r) then done r s else s
