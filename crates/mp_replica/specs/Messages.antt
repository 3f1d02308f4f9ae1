-- Runs of a patch log: the messages that it received, as a relation between their list and the log. Only membership in the
-- list counts.
use Rattle.std.specs.Prelude.{◌≡◌, ◌≢◌, ◌↔◌, ◌<◌, ℕ, List, None, Some}
use Rattle.std.specs.List.{Contains}
use Rattle.mp_tree.specs.Document.{Document}
use Rattle.mp_tree.specs.View.{document}
use Rattle.mp_replica.specs.PatchLog.{HeldLog, StoresAlso, start_of, stored_of}
use Rattle.mp_replica.specs.declared.message.Arrival.{Arrival}
use Rattle.mp_replica.specs.declared.message.Arrival.TheVariants as arrival
use Rattle.mp_replica.specs.declared.message.Identity.{Identity}
use Rattle.mp_replica.specs.declared.message.Message.{Message}

-- a patch that was sent: the number of its start, its identity, and itself
pub record Sent : Type 0 where
  pub epoch : ℕ
  pub identity : Identity
  pub patch : Document

abbrev pub sent : Message → Sent
sent m = record { epoch = m.epoch; identity = m.identity; patch = document m.patch }

-- what becomes of a message, and of the log to which it comes: only one that is stored changes it
abbrev pub Becomes : Arrival → Sent → HeldLog → HeldLog → Type 0
Becomes arrival.Stored m before now =
    (m.epoch ≡ before.epoch) × (stored_of before m.identity ≡ None) × (now.epoch ≡ before.epoch)
    × (now.start ≡ before.start) × StoresAlso (stored_of before) m.identity m.patch (stored_of now)
Becomes arrival.Repeat m before now =
    (m.epoch ≡ before.epoch) × (stored_of before m.identity ≢ None) × (now ≡ before)
Becomes arrival.Late m before now = (m.epoch < before.epoch) × (now ≡ before)
Becomes arrival.Early m before now = (before.epoch < m.epoch) × (now ≡ before)

-- the log has this start, and these messages arrived, in any order and with any repeats: under the identity of each message
-- for the start it stores one of their patches, and nothing else
pub record LogFollows (epoch : ℕ) (start : Document) (messages : List Sent) (log : HeldLog) : Type 0 where
  pub epoch_is : log.epoch ≡ epoch
  pub start_is : start_of log ≡ start
  pub stored : (i : Identity) (p : Document) → stored_of log i ≡ Some p
      → Contains messages (record { epoch = epoch; identity = i; patch = p })
  pub all : (i : Identity) (p : Document) → Contains messages (record { epoch = epoch; identity = i; patch = p })
      → stored_of log i ≢ None

-- no two patches were sent under one identity for the start of this number
abbrev pub HaveOnePatchFor : ℕ → List Sent → Type 0
HaveOnePatchFor epoch messages =
    (i : Identity) (p q : Document) → Contains messages (record { epoch = epoch; identity = i; patch = p })
    → Contains messages (record { epoch = epoch; identity = i; patch = q }) → p ≡ q

-- the lists have the same messages of the start of this number, in any order and with any repeats
abbrev pub HaveSameMessagesFor : ℕ → List Sent → List Sent → Type 0
HaveSameMessagesFor epoch messages others =
    (i : Identity) (p : Document) → Contains messages (record { epoch = epoch; identity = i; patch = p })
    ↔ Contains others (record { epoch = epoch; identity = i; patch = p })
