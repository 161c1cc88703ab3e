-- A chunk is of a file.
use Rattle.std.proofs.Common.{◌≡◌, ap, inl, ◌∙◌}
use Rattle.bac_value.specs.Views.{object_identifier_view}
use Rattle.bac_keep.specs.Parts.{place_for}
use Rattle.bac_serving.proofs.listing.part_at.Goals as goal

pub returns-in-Chunk : goal.returns-in-Chunk
returns-in-Chunk c =
    inl (object_identifier_view c.in-Chunk.object, c.in-Chunk.at, c.in_ok-object.ensures.is ∙ ap place_for c.in-Chunk.is)
