-- The table that a load makes of the heads and map pages that it read.
use Rattle.jn_files.proofs.Common.{◌≡◌, ◌<◌, ◌^◌, ℕ, Bool, false, List, length, sym, ap, subst, ◌∙◌, arith, slice_index_or, not, ◌&&◌, FreeNumbers, count_of, is_free_number, Head, Counts, counts_of, AreHeads, layouts_of, IsLoaded, AreFreeHeads, AreNamed, IsKeptTable, table_view}
use Rattle.jn_records.specs.declared.root.Root.{Root}
use Rattle.jn_files.proofs.Standing.{kept_by}

module _ (root : Root) (slots heads seen again : List Head) (rows : List (List ℕ)) (held touched named flags : List Bool) (fh fl : FreeNumbers) (are : AreHeads root.leaves rows slots) (slots_are : length slots ≡ root.heads)
    (few : root.heads < 2 ^ 16) (heads_are : heads ≡ slots) (seen_is : seen ≡ slots) (again_is : again ≡ slots) (flags_are : flags ≡ named) (long : length held ≡ root.leaves) (few_leaves : root.leaves < 2 ^ 16)
    (none_held : (a : ℕ) → slice_index_or held a false ≡ false) (touched_long : length touched ≡ root.leaves) (none_touched : (a : ℕ) → slice_index_or touched a false ≡ false) (free_heads : AreFreeHeads seen fh)
    (named_long : length named ≡ root.leaves) (names : AreNamed (layouts_of rows again) named) (count : count_of fl ≡ root.leaves) (promised : fl.promised ≡ 0)
    (each : (a : ℕ) → a < root.leaves → is_free_number fl a ≡ not (slice_index_or flags a false)) where
  its_free : AreFreeHeads heads fh
  its_free = subst (λ (l : List Head). AreFreeHeads l fh) (seen_is ∙ sym heads_are) free_heads

  its_length : length heads ≡ root.heads
  its_length = ap length heads_are ∙ slots_are

  pub made_kept : IsKeptTable root.pool heads rows held touched named fh fl
  made_kept = kept_by root.pool heads rows held touched named fh fl (subst (λ (n : ℕ). AreHeads n rows heads) (sym long) (subst (AreHeads root.leaves rows) (sym heads_are) are))
      (let e = its_length in omega (arith, e, few)) (omega (arith, long, few_leaves)) (touched_long ∙ sym long) its_free.count its_free.each
      (subst (λ (l : List Head). AreNamed (layouts_of rows l) named) (again_is ∙ sym heads_are) names) (record {
        names = named_long ∙ sym long;
        count = count ∙ sym long;
        each = λ a lt. each a (omega (arith, lt, long)) ∙ ap (λ (l : List Bool). not (slice_index_or l a false)) flags_are ∙ ap (λ (b : Bool). not b && not (slice_index_or named a false)) (sym (none_held a));
      })

  pub made_loaded : IsLoaded (counts_of root) (table_view root.pool heads rows held touched fh fl)
  made_loaded = record {
    counts = ap (λ (n : ℕ). let g : Counts = record { pool = root.pool; heads = n; leaves = length held } in g) its_length
        ∙ ap (λ (n : ℕ). let g : Counts = record { pool = root.pool; heads = root.heads; leaves = n } in g) long;
    table = made_kept.table;
    loose = none_held;
    untouched = none_touched;
    promised_heads = its_free.promised;
    promised_leaves = promised;
  }
