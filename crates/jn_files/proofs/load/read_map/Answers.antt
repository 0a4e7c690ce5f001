use Rattle.jn_files.proofs.Common.{refl, Ok, ◌-◌, arith, counts_of}
use Rattle.jn_files.proofs.Loading.{one_cleaned, one_got, one_mended, one_read, was_candidate}
use Rattle.jn_files.proofs.load.read_map.Goals as goal

pub returns-in_err-cleanup-clause-cleaned : goal.returns-in_err-cleanup-clause-cleaned
returns-in_err-cleanup-clause-cleaned g c =
    one_cleaned (counts_of c.args.root.now) (g.S.StableStore.view c.args.store.now) c.args.address c.requires.fits c.requires.below c.if-address-eq0.false c.data_place-place.result c.data_place-place.ensures
    c.cleanup.result (g.S.StableStore.view c.cleanup.new.self) c.cleanup.ensures.cleaned

pub returns-in_err-page-clause-cleaned : goal.returns-in_err-page-clause-cleaned
returns-in_err-page-clause-cleaned g c =
    one_got (counts_of c.args.root.now) (g.S.StableStore.view c.args.store.now) c.args.address c.requires.fits c.requires.below c.if-address-eq0.false c.data_place-place.result c.data_place-place.ensures
    c.cleanup.result (g.S.StableStore.view c.cleanup.new.self) c.cleanup.ensures.cleaned c.get.result (g.S.StableStore.view c.get.new.self) c.get.ensures.got

pub row_of-requires : goal.row_of-requires
row_of-requires g c =
    c.requires.pages (c.args.address - 1) (let some = c.if-address-eq0.false in omega (arith, some)) c.in_ok-page.page
    (was_candidate (counts_of c.args.root.now) (g.S.StableStore.view c.args.store.now) c.args.address c.requires.fits c.requires.below c.if-address-eq0.false c.data_place-place.result c.data_place-place.ensures
    (Ok c.in_ok-cleanup.field-0) (g.S.StableStore.view c.cleanup.new.self) c.in_ok-cleanup.ensures.cleaned (Ok c.in_ok-page.page) (g.S.StableStore.view c.get.new.self) c.in_ok-page.ensures.got c.in_ok-page.page refl)

pub returns-clause-cleaned : goal.returns-clause-cleaned
returns-clause-cleaned g c =
    one_got (counts_of c.args.root.now) (g.S.StableStore.view c.args.store.now) c.args.address c.requires.fits c.requires.below c.if-address-eq0.false c.data_place-place.result c.data_place-place.ensures
    c.cleanup.result (g.S.StableStore.view c.cleanup.new.self) c.cleanup.ensures.cleaned c.get.result (g.S.StableStore.view c.get.new.self) c.get.ensures.got

pub returns-clause-read : goal.returns-clause-read
returns-clause-read g c = λ _.
    one_read (counts_of c.args.root.now) (g.S.StableStore.view c.args.store.now) c.args.address c.requires.fits c.requires.below c.if-address-eq0.false c.data_place-place.result c.data_place-place.ensures
    (Ok c.in_ok-cleanup.field-0) (g.S.StableStore.view c.cleanup.new.self) c.in_ok-cleanup.ensures.cleaned (Ok c.in_ok-page.page) (g.S.StableStore.view c.get.new.self) c.in_ok-page.ensures.got
    c.args.maps.now c.replace.new.self c.in_ok-page.page c.row_of.result refl refl c.requires.rows c.replace.ensures.new c.row_of.ensures.page c.row_of.ensures.row

pub returns-clause-mended : goal.returns-clause-mended
returns-clause-mended g c = λ _.
    one_mended (counts_of c.args.root.now) (g.S.StableStore.view c.args.store.now) c.args.address c.requires.fits c.requires.below c.if-address-eq0.false c.data_place-place.result c.data_place-place.ensures
    (Ok c.in_ok-cleanup.field-0) (g.S.StableStore.view c.cleanup.new.self) c.in_ok-cleanup.ensures.cleaned (Ok c.in_ok-page.page) (g.S.StableStore.view c.get.new.self) c.in_ok-page.ensures.got
