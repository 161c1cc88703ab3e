-- The request that was performed, as a C program is told.
use Rattle.std.specs.Prelude.{◌≡◌, MatchOption, ℕ, ℤ, pos, Bool, true, false, List, [], ◌∷◌, Option, Some, None}
use Rattle.bac_responder.specs.declared.served.Act.{Act}
use Rattle.bac_service.specs.Values.{object_asked, priority_asked, property_asked, start_asked}
use Rattle.bac_service.specs.Values.{Request, Reference, choice_of, held}
use Rattle.bac_service.specs.Replies as reply
use Rattle.bac_value.specs.Value.{ObjectId}
use Rattle.bac_world.specs.Services as world
use Rattle.bac_node.specs.Views.{performed_view}
use Rattle.bac_c.specs.declared.device.Device.{Device}
use Rattle.bac_c.specs.declared.records.Performed.{Performed}

-- 2^32 - 1 stands for the property as a whole
abbrev pub index_told : Option ℕ → ℕ
index_told None = 4294967295
index_told (Some n) = n

abbrev pub is_done : reply.Reply → Bool
is_done (reply.Reply.Error class code) = false
is_done _ = true

-- 0 stands for no priority
abbrev pub priority_told : Option ℕ → ℕ
priority_told None = 0
priority_told (Some n) = n

abbrev pub of_property : (service : ℕ) → (link : List ℕ) → (done : Bool) → Reference → (priority : ℕ) → Performed
of_property service link done r priority =
    record {
      link = link;
      service = service;
      done = done;
      object_type = r.object.kind;
      priority = priority;
      instance = r.object.instance;
      property = r.property;
      index = index_told r.index;
      position = pos 0;
    }

abbrev pub of_file : (service : ℕ) → (link : List ℕ) → (done : Bool) → ObjectId → (position : ℤ) → Performed
of_file service link done f position =
    record { link = link; service = service; done = done; object_type = f.kind; priority = 0; instance = f.instance; property = 0; index = 0; position = position }

-- where a file is read or written; 0 of a property
abbrev pub start_told : Option ℤ → ℤ
start_told None = pos 0
start_told (Some start) = start

abbrev pub told_by : (link : List ℕ) → (done : Bool) → Request → Option Reference → Performed
told_by link done r None = of_file (choice_of r) link done (object_asked r) (start_told (start_asked r))
told_by link done r (Some reference) = of_property (choice_of r) link done reference (priority_told (priority_asked r))

abbrev pub request_told : (link : List ℕ) → (done : Bool) → Request → Performed
request_told link done r = told_by link done r (property_asked r)

abbrev pub performed_told : world.Performed → Performed
performed_told p = request_told p.key.peer.link (is_done p.reply) p.request

abbrev pub nothing_performed : Performed
nothing_performed =
    record { link = 0 ∷ 0 ∷ 0 ∷ 0 ∷ 0 ∷ 0 ∷ []; service = 0; done = false; object_type = 0; priority = 0; instance = 0; property = 0; index = 0; position = pos 0 }

-- the request that was performed last is told, or that none was
abbrev pub TellsAct : Option Device → Performed → Type 0
TellsAct held p =
    MatchOption held (p ≡ nothing_performed) (λ d. MatchOption d.outcome.effect (p ≡ nothing_performed) (λ a. p ≡ performed_told (performed_view a)))

-- the octets that it wrote
abbrev pub octets_in : Option Act → List ℕ
octets_in None = []
octets_in (Some a) = held (performed_view a).request

abbrev pub octets_written : Option Device → List ℕ
octets_written None = []
octets_written (Some d) = octets_in d.outcome.effect
