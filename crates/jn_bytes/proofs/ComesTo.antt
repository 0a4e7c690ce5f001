-- What a call comes to from some turn on: whatever it asks, as the files answer, it ends with this reply and leaves these files.
use Rattle.std.proofs.Common.{◌≡◌, ℕ, true, List, [], ◌∷◌, refl, sym, subst}
use Rattle.std.specs.Prelude.{is_some}
use Rattle.jn_base.specs.declared.names.FileNo.{FileNo}
use Rattle.jn_base.specs.declared.names.LockUnit.TheVariants.{File}
use Rattle.jn_base.specs.declared.op.Op.{Op}
use Rattle.jn_base.specs.declared.op.Answer.{Answer}
use Rattle.jn_order.specs.Files.{Files, change, written, answer_to, files_after}
use Rattle.jn_order.specs.Changes.{files_then}
use Rattle.jn_order.specs.Answers.{Answered, ops_of, FilesAnswer}
unfoldable use Rattle.jn_order.specs.Files.{zeros}
unfoldable use Rattle.jn_bytes.specs.ByteFiles.{sized}
use Rattle.jn_base.specs.declared.call.ByteCommand.{ByteCommand}
use Rattle.jn_base.specs.declared.call.ByteCommand.TheVariants.{WriteBytes}
use Rattle.jn_bytes.specs.declared.next.Next.{Next}
use Rattle.jn_bytes.specs.declared.next.Next.TheVariants.{Did}
use Rattle.jn_bytes.specs.declared.stage.Stage.{Stage}
use Rattle.jn_bytes.specs.declared.stage.Stage.TheVariants.{Write as AsksWrite}
use Rattle.jn_bytes.specs.declared.stage.Turn.{Turn}
use Rattle.jn_bytes.specs.declared.stage.Turn.TheVariants.{Sends, Over}
use Rattle.jn_bytes.specs.ByteFiles.{block_in}
use Rattle.jn_bytes.specs.Turns.{read_op, write_op, write_all, go_on, turn}
use Rattle.jn_bytes.specs.Exchanges.{GoesOn}

pub record ComesTo (call : ByteCommand) (t : Turn) (files : Files) (reply : Next) (left : Files) : Type 0 where
  pub each : (os : List Answered) (last : Next) → FilesAnswer files os → GoesOn call t os last → (last ≡ reply) × (files_then (ops_of os) files ≡ left)

pub over : (call : ByteCommand) (reply : Next) (files : Files) → ComesTo call (Over reply) files reply files
over call reply files = record { each = by }
  where
    by : (os : List Answered) (last : Next) → FilesAnswer files os → GoesOn call (Over reply) os last → (last ≡ reply) × (files_then (ops_of os) files ≡ files)
    by [] last a g = (sym g, refl)
    by (o ∷ os) last a g = absurd g

pub sends : (call : ByteCommand) (op : Op) (stage : Stage) (files : Files) (reply : Next) (left : Files)
    → ComesTo call (turn call stage (answer_to op files)) (files_after op files) reply left → ComesTo call (Sends op stage) files reply left
sends call op stage files reply left h = record { each = by }
  where
    by : (os : List Answered) (last : Next) → FilesAnswer files os → GoesOn call (Sends op stage) os last → (last ≡ reply) × (files_then (ops_of os) files ≡ left)
    by [] last a g = absurd g
    by (o ∷ os) last a g =
        let k = subst (λ (x : Op). ComesTo call (turn call stage (answer_to x files)) (files_after x files) reply left) (sym g.0) h in
        k.each os last a.1 (subst (λ (x : Answer). GoesOn call (turn call stage x) os last) (sym a.0) g.1)

-- a block is read of a file that is there
pub reads : (call : ByteCommand) (f : FileNo) (p : ℕ) (stage : Stage) (files : Files) (reply : Next) (left : Files) → is_some (files (File f)) ≡ true
    → ComesTo call (go_on call stage (block_in files f p)) files reply left → ComesTo call (Sends (read_op f p) stage) files reply left
reads call f p stage files reply left there h = sends call (read_op f p) stage files reply left (rw there h)

-- one is written
writes-one : (call : ByteCommand) (f : FileNo) (p : ℕ) (bytes : List ℕ) (stage : Stage) (files : Files) (reply : Next) (left : Files) → is_some (files (File f)) ≡ true
    → ComesTo call (go_on call stage (sized zeros)) (change (written f (record { 0 = p }) bytes) files) reply left → ComesTo call (Sends (write_op f p bytes) stage) files reply left
writes-one call f p bytes stage files reply left there h = sends call (write_op f p bytes) stage files reply left (rw there h)

-- many are, one after another
pub record Put : Type 0 where
  pub place : ℕ
  pub bytes : List ℕ

abbrev pub puts : FileNo → List Put → List Op
puts f [] = []
puts f (w ∷ ws) = write_op f w.place w.bytes ∷ puts f ws

abbrev pub put_all : FileNo → List Put → Files → Files
put_all f [] files = files
put_all f (w ∷ ws) files = put_all f ws (change (written f (record { 0 = w.place }) w.bytes) files)

pub writes : (f : FileNo) (offset : ℕ) (bytes : List ℕ) (ws : List Put) (files : Files) → is_some (files (File f)) ≡ true
    → ComesTo (WriteBytes f offset bytes) (write_all (puts f ws)) files Did (put_all f ws files)
writes f offset bytes [] files there = over (WriteBytes f offset bytes) Did files
writes f offset bytes (w ∷ ws) files there = writes-one (WriteBytes f offset bytes) f w.place w.bytes (AsksWrite (puts f ws)) files Did (put_all f (w ∷ ws) files) there
    (writes f offset bytes ws (change (written f (record { 0 = w.place }) w.bytes) files) there)
