use Rattle.jn_image_files.proofs.Common.{List, refl, sym, subst, Half, AreSound, HasPages, IsStoreOfPages, image_counts, sound_pages}
use Rattle.jn_image_files.proofs.Disks.{look, device}
use Rattle.jn_image_files.proofs.examining.examine_image.Goals as goal

pub store_of_pages-requires : goal.store_of_pages-requires
store_of_pages-requires c =
    let m = c.in_ok-image.image in
    let found = c.in_ok-image.ensures.sound in
    record { sound = (m.version, c.args.server, image_counts m, subst (λ (xs : List Half). AreSound m.version c.args.server (image_counts m) xs) (sym c.into_vec.ensures) (sound_pages m c.args.server found.0.form found.0.sound)) }

pub returns-clause-store : goal.returns-clause-store
returns-clause-store c =
    let m = c.in_ok-image.image in
    let found = c.in_ok-image.ensures.sound in
    let sound = sound_pages m c.args.server found.0.form found.0.sound in
    let given = c.in_ok-store.ensures in
    let are : AreSound m.version c.args.server (image_counts m) c.into_vec.result.items = subst (λ (xs : List Half). AreSound m.version c.args.server (image_counts m) xs) (sym c.into_vec.ensures) sound in
    record {
      disk = record {
        image = m;
        is_sound = found.0;
        bytes = found.1;
        counts = refl;
        pages = subst (λ (xs : List Half). HasPages xs (device c.in_ok-store.store)) c.into_vec.ensures given.pages;
        new = given.new;
      };
      store = subst (λ (xs : List Half). IsStoreOfPages m.version c.args.server (image_counts m) xs (look c.in_ok-store.store)) c.into_vec.ensures (given.found m.version c.args.server (image_counts m) are);
    }
