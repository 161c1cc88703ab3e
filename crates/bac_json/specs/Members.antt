-- An object that gets one member after another.
use Rattle.std.specs.Prelude.{◌≡◌, Bool, true}
use Rattle.serde_json.specs.Data as json
use Rattle.serde_json.specs.View.{members_view}
use Rattle.bac_json.specs.declared.members.Members.{Members}

-- no member was lost for want of memory
abbrev pub is_whole : Members → Bool
is_whole m = m.is_whole

abbrev pub members_in : Members → json.Members
members_in m = members_view m.map.entries

-- the same with more members, if none was lost
abbrev pub Extends : (more : json.Members → json.Members) → (before after : Members) → Type 0
Extends more before after = is_whole after ≡ true → (is_whole before ≡ true) × (members_in after ≡ more (members_in before))
