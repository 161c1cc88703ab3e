-- Logs that are computed: node 0 asks node 2 for the octets of its file, and node 2 lets clients use an invoke ID again. It performs the read twice, and the file
-- changes in between.
use Rattle.std.specs.Prelude.{◌≡◌, ℕ, pos, List, [], ◌∷◌, nat_eq}
use Rattle.bac_service.specs.Values.{Request}
use Rattle.bac_service.specs.Values.ReadAccess.{ReadStream}
use Rattle.bac_service.specs.Replies.{Reply}
use Rattle.bac_store.specs.Replies.{reply_to}
use Rattle.bac_transaction.specs.Meanings.Ending.{Answered}
use Rattle.bac_world.specs.Examples.{CHANGE, FILES, FILE_OF}
use Rattle.bac_world.specs.Once.{Fact, Stores}
use Rattle.bac_world.specs.Once.Fact.{Asked, Changed, Ended, Performed}
use Rattle.bac_world.specs.ReusingLogs.{IsOnceSo, Reuses}

abbrev pub REUSES : Reuses
REUSES node = nat_eq node 2

abbrev pub READ : Request
READ = Request.ReadFile (record { kind = 10; instance = 1 }) (ReadStream (pos 0) 10)

-- the reply where the file has these octets
abbrev pub READS : List ℕ → Reply
READS octets = reply_to (FILES octets) READ

-- the file has no octets at first, and then octets 1 and 2
abbrev pub FIRST : Reply
FIRST = READS []

abbrev pub SECOND : Reply
SECOND = READS (1 ∷ 2 ∷ [])

-- the first reply is lost, and the second one is the answer
abbrev pub ANSWERED : Reply → List Fact
ANSWERED answer = Ended 0 (Answered answer) ∷ Performed 0 READ SECOND ∷ Changed 2 CHANGE ∷ Performed 0 READ FIRST ∷ Asked 0 0 2 READ ∷ []

-- the file changes before the ask, and the store gives the first reply no more
abbrev pub CHANGED_BEFORE : Reply → List Fact
CHANGED_BEFORE answer = Ended 0 (Answered answer) ∷ Performed 0 READ SECOND ∷ Asked 0 0 2 READ ∷ Changed 2 CHANGE ∷ []

-- the second reply may be the answer, and is not the first; one that the store gave before the ask alone may not
pub record AnsweredBySecond : Type 0 where
  pub second : IsOnceSo REUSES (FILE_OF []) (ANSWERED SECOND) (FILE_OF (1 ∷ 2 ∷ []))
  pub other : FIRST ≡ SECOND → ⊥
  pub before : (stores : Stores) → IsOnceSo REUSES (FILE_OF []) (CHANGED_BEFORE FIRST) stores → ⊥
