-- All changes so far are news, and those that are left make all news of them.
use Rattle.std.proofs.Common.{◌≡◌, drop, map}
use Rattle.std.specs.List.{All}
use Rattle.bac_store.specs.Views.{change_view, object_view}
use Rattle.bac_follow.specs.Following.{IsNews, all_news, with_objects}
use Rattle.bac_follow.proofs.news.news_of.Given as goal

abbrev pub invariant-loop-object : goal.invariant-loop-object
invariant-loop-object l =
    record {
      all : with_objects l.documents.before.now l.documents.now.now (map object_view (drop l.object-index l.objects)) (map change_view l.changes.items)
          ≡ all_news l.documents.before.now l.documents.now.now (map object_view l.objects);
      news : All (IsNews l.documents.before.now l.documents.now.now) (map change_view l.changes.items);
    }
