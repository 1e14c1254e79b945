use Rattle.std.proofs.Common.{rules, arith, ap, sym, ◌∙◌, subst, ◌≡◌, ℕ, ◌≤◌, length}
use Rattle.std.specs.Prelude.{option_map, Result, Ok, Err, IsErrOf}
use Rattle.aso_disk.specs.Causes.{Rose}
use Rattle.aso_disk.specs.Shelf.{with_sealed}
use Rattle.aso_runs.specs.Runs.{Entries}
use Rattle.aso_cellfile.specs.Opened.{IsFileOf}
use Rattle.aso_cellfile.proofs.writer.Writer.finish.Goals as goal

not_err : {T E : Type 0} (x : T) (e : E) → IsErrOf {T = T} {E = E} (Ok x) e → ⊥
not_err {T = T} {E = E} x e is = let h : ◌≡◌ {A = Result T E} (Ok x) (Err e) = is in cc

same_err : {T U E : Type 0} (e f : E) → IsErrOf {T = T} {E = E} (Err e) f → IsErrOf {T = U} {E = E} (Err e) f
same_err {T = T} {U = U} {E = E} e f is = let h : ◌≡◌ {A = Result T E} (Err e) (Err f) = is in let k : e ≡ f = cc in from k
  where
    from : e ≡ f → ◌≡◌ {A = Result U E} (Err e) (Err f)
    from k = cc

rose_later : (a b c : ℕ) → a ≤ b → Rose b c → Rose a c
rose_later a b c le rose = omega (arith, le, rose)

pub close_file-requires : goal.close_file-requires
close_file-requires g c = let k = c.in-Ok.ensures.closed c.requires.stands.0 c.requires.stands.1 in (search rules, (search rules, (k.0, k.1, k.3)))

pub returns-in-Err-clause-cause : goal.returns-in-Err-clause-cause
returns-in-Err-clause-cause g c = record { later = c.close_last.ensures.cause.later; rose = λ failed. c.in-Err.ensures.cause.rose (same_err _ _ failed) }

pub returns-in-Ok-close_file-clause-file : goal.returns-in-Ok-close_file-clause-file
returns-in-Ok-close_file-clause-file g c = λ cells is.
    let k = c.in-Ok.ensures.closed cells is in
    let r = c.in-Ok-close_file.ensures.file k.0 k.1 k.3 in
    subst (λ (l : Entries). IsFileOf g.row.W c.in-Ok-close_file.file l × (c.in-Ok-close_file.file.count ≡ length l)) (sym k.2) r

pub returns-in-Ok-close_file-clause-sealed : goal.returns-in-Ok-close_file-clause-sealed
returns-in-Ok-close_file-clause-sealed g c =
    let b = c.in-Ok-close_file.ensures.sealed in
    (b.0, b.1, b.2 ∙ ap (λ (n : ℕ). option_map (with_sealed n b.0) (g.S.Shelf.files c.close_last.new.shelf)) c.close_last.ensures.id ∙ ap (λ f. option_map (with_sealed c.args.self.id b.0) f) c.close_last.ensures.files)

pub returns-in-Ok-close_file-clause-same : goal.returns-in-Ok-close_file-clause-same
returns-in-Ok-close_file-clause-same g c = g.met.S.Shelf.same_trans c.args.shelf.now c.close_last.new.shelf c.close_file.new.shelf c.close_last.ensures.same c.close_file.ensures.same

pub returns-in-Ok-close_file-clause-cause : goal.returns-in-Ok-close_file-clause-cause
returns-in-Ok-close_file-clause-cause g c =
    let a = c.close_last.ensures.cause.later in
    let b = c.close_file.ensures.cause.later in
    record { later = omega (arith, a, b); rose = λ failed. absurd (not_err _ _ failed) }

pub returns-in-Err-close_file-clause-same : goal.returns-in-Err-close_file-clause-same
returns-in-Err-close_file-clause-same g c = g.met.S.Shelf.same_trans c.args.shelf.now c.close_last.new.shelf c.close_file.new.shelf c.close_last.ensures.same c.close_file.ensures.same

pub returns-in-Err-close_file-clause-cause : goal.returns-in-Err-close_file-clause-cause
returns-in-Err-close_file-clause-cause g c =
    let a = c.close_last.ensures.cause.later in
    let b = c.close_file.ensures.cause.later in
    record { later = omega (arith, a, b); rose = λ failed. rose_later (g.S.Shelf.faults c.args.shelf.now) (g.S.Shelf.faults c.close_last.new.shelf) (g.S.Shelf.faults c.close_file.new.shelf) a (c.in-Err-close_file.ensures.cause.rose failed) }
