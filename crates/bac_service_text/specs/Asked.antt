-- Replies that name another object, property or index than was asked. Only the ComplexACK of ReadProperty names one (clause 15.5).
use Rattle.std.specs.Prelude.{ℕ, ◌==◌, Bool, true, false, ◌&&◌, ◌||◌, not, Option, Some, None}
use Rattle.bac_value.specs.Value.{ObjectId}
use Rattle.bac_service.specs.Values.{Reference, Request}
use Rattle.bac_service.specs.Replies as plain
use Rattle.bac_service.specs.Values.{property_answered}
use Rattle.bac_service_text.specs.Dispatch.{property_read}

-- device 4,194,303 stands for any (clause 15.5.2)
abbrev pub is_any_device : ObjectId → Bool
is_any_device o = (o.kind == 8) && (o.instance == 4194303)

abbrev pub is_asked_object : (asked named : ObjectId) → Bool
is_asked_object asked named = (named.kind == asked.kind) && ((named.instance == asked.instance) || is_any_device asked)

abbrev pub is_asked_index : (asked named : Option ℕ) → Bool
is_asked_index None None = true
is_asked_index None (Some index) = false
is_asked_index (Some asked) None = false
is_asked_index (Some asked) (Some index) = index == asked

abbrev pub is_asked_property : (asked named : Reference) → Bool
is_asked_property asked named =
    is_asked_object asked.object named.object && ((named.property == asked.property) && is_asked_index asked.index named.index)

-- where a property was asked for, it is that one
abbrev pub is_asked : (asked : Option Reference) → (named : Reference) → Bool
is_asked None named = true
is_asked (Some asked) named = is_asked_property asked named

-- a property is named, and is another one
abbrev pub is_other : (asked named : Option Reference) → Bool
is_other asked None = false
is_other asked (Some named) = not (is_asked asked named)

-- the reply to a request names another object, property or index
abbrev pub names_other : Request → plain.Reply → Bool
names_other request plain.Reply.Simple = false
names_other request (plain.Reply.Complex c) = is_other (property_read request) (property_answered c)
names_other request (plain.Reply.Error class code) = false
names_other request (plain.Reply.Reject reason) = false
