-- Plans: the reply to a request, and its effect.
use Rattle.std.specs.Prelude.{◌≡◌, ℕ, ℤ, ◌==◌, List, Option, Some, None, if◌then◌else◌}
use Rattle.bac_value.specs.Value.{ObjectId}
use Rattle.bac_service.specs.Values.{Reference, Request}
use Rattle.bac_service.specs.Replies.{Reply}
use Rattle.bac_store.specs.Limits.{FILE_SIZE}
use Rattle.bac_store.specs.Stores.{Store, Object, File}
use Rattle.bac_store.specs.Replies.{overwritten, reply_to, write_start, write_stream_reply}
use Rattle.bac_store.specs.Changes.{with_object, with_values, with_octets, resized, size_of, is_done, after}

-- none, new values of one listed property, new octets of one file from a position on, or new contents that replace all of a file
pub data StoreEffect : Type 0 where
  Nothing : StoreEffect
  Values : (object : ObjectId) (property : ℕ) (values : List ℕ) → StoreEffect
  Octets : (object : ObjectId) (at : ℕ) (new : List ℕ) → StoreEffect
  Contents : (object : ObjectId) (octets : List ℕ) → StoreEffect

pub record Plan : Type 0 where
  pub reply : Reply
  pub effect : StoreEffect

-- the store after an effect
abbrev pub with_effect : StoreEffect → Store → Store
with_effect StoreEffect.Nothing s = s
with_effect (StoreEffect.Values id n values) s = with_object id (with_values n values) s
with_effect (StoreEffect.Octets id at new) s = with_object id (with_octets (overwritten at new)) s
with_effect (StoreEffect.Contents id octets) s = with_object id (with_octets (λ old. octets)) s

-- the effect of new octets for a file, if it is one
abbrev pub size_effect : ObjectId → ℕ → Option File → StoreEffect
size_effect id n None = StoreEffect.Nothing
size_effect id n (Some f) = StoreEffect.Contents id (resized n f.octets)

-- the effect of new values for a property of this object
abbrev pub write_effect : Reference → List ℕ → Object → StoreEffect
write_effect r values o =
    if r.property == FILE_SIZE then size_effect r.object (size_of values) o.file else StoreEffect.Values r.object r.property values

-- the plan was made on this store, for this request
pub record IsPlanFor (s : Store) (r : Request) (p : Plan) : Type 0 where
  pub reply : p.reply ≡ reply_to s r
  pub effect : with_effect p.effect s ≡ after s r

-- a plan for writing octets to this file: an Error has no effect
pub record IsStreamPlan (id : ObjectId) (start : ℤ) (new : List ℕ) (f : File) (p : Plan) : Type 0 where
  pub reply : p.reply ≡ write_stream_reply start new f
  pub effect : p.effect ≡ (if is_done p.reply then StoreEffect.Octets id (write_start start f.octets) new else StoreEffect.Nothing)

-- the plan was made on this store
pub record IsPlanOn (s : Store) (p : Plan) : Type 0 where
  pub request : Request
  pub made : IsPlanFor s request p
