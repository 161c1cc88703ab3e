-- All changes so far are news, and those that are left make all news of them.
use Rattle.std.proofs.Common.{◌≡◌, drop, map}
use Rattle.std.specs.List.{All}
use Rattle.bac_value.specs.Views.{object_identifier_view}
use Rattle.bac_store.specs.Views.{change_view, property_view}
use Rattle.bac_follow.specs.Following.{IsNews, with_properties}
use Rattle.bac_follow.proofs.news.add_object.Given as goal

abbrev pub invariant-loop-property : goal.invariant-loop-property
invariant-loop-property l =
    record {
      all : with_properties l.documents.before.now l.documents.now.now (object_identifier_view l.object.id)
          (map property_view (drop l.property-index l.object.properties.items)) (map change_view l.changes.items)
          ≡ with_properties l.documents.before.now l.documents.now.now (object_identifier_view l.object.id) (map property_view l.object.properties.items)
          (map change_view l.fn.changes.items);
      news : All (IsNews l.documents.before.now l.documents.now.now) (map change_view l.changes.items);
    }
