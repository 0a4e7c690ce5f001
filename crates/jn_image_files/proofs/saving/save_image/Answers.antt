use Rattle.jn_image_files.proofs.Common.{◌∙◌, List, refl, sym, subst, Half, AreSound, HasPages, Image, counts_by, format_version}
use Rattle.jn_image_files.proofs.Disks.{device}
use Rattle.jn_image_files.proofs.Kept.{image-of, saves-one}
use Rattle.jn_image_files.proofs.saving.save_image.Goals as goal

pub encode-requires : goal.encode-requires
encode-requires g c =
    let closed = c.requires.closed in
    let are = (c.pages_of_store.ensures.sound c.args.server (counts_by c.args.counts) closed.files closed.image closed.count).0 in
    (image-of c.args.server (counts_by c.args.counts) (device c.args.store) c.from_vec.result c.requires.server closed
    (subst (λ (xs : List Half). AreSound format_version c.args.server (counts_by c.args.counts) xs) (sym c.from_vec.ensures) are)).form

pub returns : goal.returns
returns g c = record {
  saved =
      let closed = c.requires.closed in
      let m : Image = record { version = format_version; server = c.args.server; pool = c.args.counts.pool; heads = c.args.counts.heads; leaves = c.args.counts.leaves; pages = c.from_vec.result } in
      let are = (c.pages_of_store.ensures.sound c.args.server (counts_by c.args.counts) closed.files closed.image closed.count).0 in
      let sound = image-of c.args.server (counts_by c.args.counts) (device c.args.store) c.from_vec.result c.requires.server closed
      (subst (λ (xs : List Half). AreSound format_version c.args.server (counts_by c.args.counts) xs) (sym c.from_vec.ensures) are) in
      saves-one c.args.name.now _ c.args.server (device c.args.store) m c.deref.result.now c.deref-2.result.now _ _ c.save.result _ _
      sound refl refl (subst (λ (xs : List Half). HasPages xs (device c.args.store)) (sym c.from_vec.ensures) c.pages_of_store.ensures.pages)
      (c.deref.ensures ∙ c.in_ok-own.ensures) (c.deref-2.ensures.value ∙ c.in_ok-bytes.ensures) c.save.ensures.saved;
}
