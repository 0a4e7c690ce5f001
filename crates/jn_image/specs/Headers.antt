-- What a header says, as counts.
use Rattle.jn_records.specs.StablePages.{Counts}
use Rattle.jn_image.specs.declared.reading.Header.{Header}

abbrev pub counts_by : Header → Counts
counts_by h = record { pool = h.pool; heads = h.heads; leaves = h.leaves }
