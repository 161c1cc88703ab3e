-- A client whose node has no invoke ID or no slot left, or has asked for 30 seconds, and the next node.
use Rattle.std.specs.Prelude.{◌≡◌, ◌≢◌, ◌⊎◌, ℕ, Bool, true, false}
use Rattle.bac_driver.specs.Nodes.{Octets}
use Rattle.bac_driver.specs.Asking.{AskingEnds, Question}
use Rattle.bac_driver.specs.Moments.{with_moment}
use Rattle.bac_driver.specs.Runs.{Timed, timed}
use Rattle.bac_driver.specs.declared.question.AskEnd.{AskEnd}
use Rattle.bac_driver.specs.declared.question.AskEnd.TheVariants as end
use Rattle.bac_commands.specs.Spent.{is_spent}
use Rattle.bac_asking.specs.Asking.{patience_for}
use Rattle.bac_asking.specs.Online.{IsClient, LooksOnce}
use Rattle.bac_environment.specs.Sockets.{Links}
use Rattle.bac_asking.specs.declared.asking.Asking.{Asking}

-- the node refused the ask, since it had no invoke ID or no slot left for it
abbrev pub ends_spent : AskEnd → Bool
ends_spent (end.Ended how) = false
ends_spent (end.Refused why) = is_spent why
ends_spent end.NoEnding = false

-- a new node at another link, whose invoke IDs begin anywhere, asks in the place of the one before, beside the same clock; that printed the moment at which the new
-- one begins
pub record IsRenewed (IsOn : Links) (old new : Timed) : Type 0 where
  pub host : Octets
  pub client : IsClient IsOn host new
  pub apart : new.bound_node.node.link ≢ old.bound_node.node.link
  pub told : LooksOnce old.told new.told

-- the node asked a question, and waited as from a moment on, and how that ended
abbrev pub AsksAt : (start : ℕ) → Asking → Question → AskEnd → (before after : Timed) → Type 0
AsksAt start asking q end before after = AskingEnds q end (patience_for asking.timeout start) 100000 before after

-- the node asked a question from a moment on that the clock printed, and how that ended
pub record AsksFrom (asking : Asking) (q : Question) (end : AskEnd) (before after : Timed) : Type 0 where
  pub start : ℕ
  pub ends : AskingEnds q end (patience_for asking.timeout start) 100000 (timed before.bound_node (with_moment before.told start)) after

-- what a client has once its clock has printed a moment
abbrev pub looked : (moment : ℕ) → Timed → Timed
looked moment before = timed before.bound_node (with_moment before.told moment)

-- the clock printed a moment; the node had asked for 30 seconds then, so it was not asked
pub record HasAskedLong (before after : Timed) : Type 0 where
  pub moment : ℕ
  pub is : after ≡ looked moment before

-- the clock printed a moment, and where the node had asked for 30 seconds then, the next one asks from now on
abbrev pub IsReady : Links → (moment : ℕ) → (before after : Timed) → Type 0
IsReady IsOn moment before after = (after ≡ looked moment before) ⊎ IsRenewed IsOn (looked moment before) after

-- so it was, and the node that was ready asked a question from that moment on
pub record AsksReady (IsOn : Links) (asking : Asking) (q : Question) (end : AskEnd) (before after : Timed) : Type 0 where
  pub start : ℕ
  pub ready : Timed
  pub is_ready : IsReady IsOn start before ready
  pub asks : AsksAt start asking q end ready after

-- that node had no invoke ID or no slot left for the question, and the next one asked it
pub record AsksAnew (IsOn : Links) (asking : Asking) (q : Question) (end : AskEnd) (before after : Timed) : Type 0 where
  pub refusal : AskEnd
  pub spent : ends_spent refusal ≡ true
  pub refused : Timed
  pub refuses : AsksReady IsOn asking q refusal before refused
  pub fresh : Timed
  pub renewed : IsRenewed IsOn refused fresh
  pub asks : AsksFrom asking q end fresh after

-- a question was asked by the node that was ready, or where that had nothing left for it, by the next one, which had
pub record AsksOn (IsOn : Links) (asking : Asking) (q : Question) (end : AskEnd) (before after : Timed) : Type 0 where
  pub free : ends_spent end ≡ false
  pub asks : AsksReady IsOn asking q end before after ⊎ AsksAnew IsOn asking q end before after
