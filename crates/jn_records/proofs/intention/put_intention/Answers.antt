use Rattle.jn_records.proofs.Common.{◌++◌, ◌∙◌, append_assoc, big_bytes, what_code}
use Rattle.jn_records.proofs.intention.put_intention.Goals as goal

pub returns : goal.returns
returns c =
    let page = c.args.page.now in
    let i = c.args.intention.now in
    let what = big_bytes 1 (what_code i.what) in
    let file = big_bytes 4 i.file.0 in
    let block = big_bytes 2 i.block.0 in
    let pages = big_bytes 2 i.address ++ big_bytes 2 i.map in
    rw (c.put_pages.ensures, c.put_u16.ensures, c.put_u32.ensures, c.put_u8.ensures, c.code_of.ensures)
    (append_assoc ((page ++ what) ++ file) block pages ∙ append_assoc (page ++ what) file (block ++ pages) ∙ append_assoc page what (file ++ (block ++ pages)))
