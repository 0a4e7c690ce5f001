-- Concrete tables, by which rows are checked by computing them.
use Rattle.std.specs.Prelude.{ℕ, Bool, false, if◌then◌else◌, List, [], ◌∷◌, Option, Some, None}
use Rattle.jn_base.specs.declared.names.ClientNo.{ClientNo}
use Rattle.jn_base.specs.declared.names.FileNo.{FileNo}
use Rattle.jn_base.specs.declared.names.BlockNo.{BlockNo}
use Rattle.jn_base.specs.declared.names.LockUnit.{LockUnit}
use Rattle.jn_base.specs.declared.names.LockUnit.TheVariants.{File, Block}
use Rattle.jn_base.specs.declared.names.Tid.{Tid}
use Rattle.jn_base.specs.declared.names.WorkId.{WorkId}
use Rattle.jn_base.specs.declared.names.Tickets.{Tickets}
use Rattle.jn_base.specs.declared.op.Answer.{Answer}
use Rattle.jn_base.specs.Names.{file_eq, request_of}
use Rattle.jn_order.specs.Files.{Files, there, zeros}
use Rattle.jn_records.specs.declared.intention.What.TheVariants.{Put, Fresh}
use Rattle.jn_records.specs.declared.intention.Intention.{Intention}
use Rattle.jn_records.specs.NetEdits.{plain}
use Rattle.jn_records.specs.MapPlaces.{no_maps}
use Rattle.jn_rows.specs.declared.worker.Work.{Work}
use Rattle.jn_rows.specs.declared.worker.Phase.TheVariants.{Active, Prepared as IsStored}
use Rattle.jn_rows.specs.declared.coordinator.Transaction.{Transaction}
use Rattle.jn_rows.specs.declared.coordinator.Stage.{Stage}
use Rattle.jn_rows.specs.declared.coordinator.Stage.TheVariants.{Voting, Committed}
use Rattle.jn_rows.specs.Stable.{StableState, at_work, at_tid}
use Rattle.jn_rows.specs.Worker.{WorkStorage}
use Rattle.jn_rows.specs.Coordinator.{CoordinatorTable}

-- names of server 1 and of server 0, each in epoch 2
abbrev pub tid : ℕ → Tid
tid n = record { server = record { 0 = 1 }; epoch = 2; ticket = n }

abbrev pub work : ℕ → WorkId
work n = record { server = record { 0 = 0 }; epoch = 2; ticket = n }

abbrev pub far_work : ℕ → WorkId
far_work n = record { server = record { 0 = 3 }; epoch = 6; ticket = n }

abbrev pub client : ClientNo
client = record { 0 = 4 }

abbrev pub file : ℕ → FileNo
file n = record { 0 = n }

abbrev pub block : ℕ → BlockNo
block n = record { 0 = n }

-- ---- a worker of server 0, with file 7 alone

abbrev pub tickets : ℕ → ℕ → Tickets
tickets server n = record { server = record { 0 = server }; epoch = 2; next = n }

abbrev pub only_file_7 : Files
only_file_7 (File f) = if file_eq f (file 7) then Some there else None
only_file_7 (Block f p) = None

-- so many records are free, and one head and one data page
abbrev pub storage : ℕ → WorkStorage
storage records = record {
  state = record { epoch = 2; files = only_file_7; works = λ W. None; flags = λ T. None };
  free = record { records = records; heads = 1; pages = 1 };
  maps = no_maps;
  next = λ W. 0;
  rubbish = false;
}

abbrev pub active : WorkId → Tid → List Intention → List LockUnit → List LockUnit → ℕ → Option Answer → Bool → Work
active W T list reads writes last kept vulnerable = record {
  name = W;
  tid = T;
  phase = Active (record {
    list = list;
    reads = reads;
    writes = writes;
    last = last;
    kept = kept;
    vulnerable = vulnerable;
  });
}

abbrev pub put_7 : ℕ → Intention
put_7 p = record { what = Put; file = file 7; block = block p; bytes = zeros }

abbrev pub fresh_4 : Intention
fresh_4 = plain Fresh (file 4) 0

-- ---- a coordinator of server 1

abbrev pub transaction : ℕ → ℕ → Stage → Transaction
transaction n begun stage = record { tid = tid n; client = client; begun = Some (request_of begun); stage = stage }

abbrev pub coordinator : List Transaction → CoordinatorTable
coordinator xs = record { transactions = xs; seen = λ c. 5 }

-- a work that puts block 3 of file 7, prepared
abbrev pub stored : WorkId → Tid → Work
stored W T = record { name = W; tid = T; phase = IsStored (record { reads = File (file 7) ∷ []; writes = Block (file 7) (block 3) ∷ [] }) }

abbrev pub holding : WorkId → Tid → Bool → ℕ → WorkStorage
holding W T going next = record (storage 3) {
  state = record (storage 3).state {
    works = at_work (λ V. None) W (Some (record {
      tid = T;
      client = client;
      list = put_7 3 ∷ [];
      reads = File (file 7) ∷ [];
      going = going;
    }));
  };
  next = λ V. next;
}

-- its End named two works, and this one is ready
abbrev pub ballot : WorkId → CoordinatorTable
ballot W = coordinator (transaction 1 5 (Voting (record { request = request_of 7; works = far_work 2 ∷ work 5 ∷ []; ready = W ∷ [] })) ∷ [])

-- a flag of two works, ended by request 7, and what a restart makes of it once these are done
abbrev pub flagged : StableState
flagged = record (storage 3).state { flags = at_tid (λ T. None) (tid 1) (Some (record { client = client; request = request_of 7; works = far_work 2 ∷ work 5 ∷ [] })) }

abbrev pub committed : ℕ → List WorkId → Bool → Transaction
committed n done thanked = record { tid = tid n; client = client; begun = None; stage = Committed (record { works = far_work 2 ∷ work 5 ∷ []; done = done; thanked = thanked }) }
