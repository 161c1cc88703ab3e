-- The abstract values of named members.
use Rattle.std.specs.Prelude.{List, [], ◌∷◌, Option, Some, None}
use Rattle.bac_value.specs.Views.{object_identifier_view}
use Rattle.bac_service.specs.declared.member.Member as code
use Rattle.bac_service.specs.declared.member.Member.TheVariants as member
use Rattle.bac_service.specs.declared.member.Members as code_members
use Rattle.bac_service.specs.Values.{Member, EndOfFile, Object, Property, Index, Position, Record, Count, Content, Records, Values, Priority}
use Rattle.bac_service.specs.WriteProperty.{priority_view}

abbrev pub member_view : code.Member → Member
member_view (member.EndOfFile e) = EndOfFile e
member_view (member.Object o) = Object (object_identifier_view o)
member_view (member.Property p) = Property p
member_view (member.Index i) = Index i
member_view (member.Position p) = Position p
member_view (member.Record r) = Record r
member_view (member.Count c) = Count c
member_view (member.Content c) = Content c.octets.now
member_view (member.Records r) = Records r.run.now
member_view (member.Values v) = Values v.octets.now
member_view (member.Priority p) = Priority (priority_view p)

-- those that there are
abbrev pub listed : List (Option code.Member) → List Member
listed [] = []
listed (None ∷ members) = listed members
listed (Some m ∷ members) = member_view m ∷ listed members

abbrev pub members_view : code_members.Members → List Member
members_view m = listed m.all
