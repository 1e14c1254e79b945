use Rattle.std.proofs.Common.{rules, ap, sym, ◌∙◌, subst, ◌≡◌, ℕ, List, [], ◌+◌, ◌^◌, ◌<◌, ◌++◌, length}
use Rattle.std.specs.Prelude.{option_map, Result, Ok, Err, IsErrOf}
use Rattle.aso_disk.specs.Shelf.{with_sealed}
use Rattle.aso_cellfile.specs.Entries.{pairs_of}
use Rattle.aso_cellfile.specs.File.{cells_in, index, footer}
use Rattle.aso_cellfile.specs.Making.{Making, Lays}
use Rattle.aso_cellfile.proofs.Layouts.{told_more}
use Rattle.aso_cellfile.proofs.Sealed.{Sealed, sealed}
use Rattle.aso_cellfile.proofs.writer.Writer.close_file.Goals as goal

pub returns-in_default-clause-same : goal.returns-in_default-clause-same
returns-in_default-clause-same g c = g.met.S.Shelf.same_refl c.args.shelf.now

pub returns-in_default-put_footer-clause-same : goal.returns-in_default-put_footer-clause-same
returns-in_default-put_footer-clause-same g c = g.met.S.Shelf.same_refl c.args.shelf.now

pub invariant_of-result : goal.invariant_of-result
invariant_of-result g c =
    let i = c.self.inside in
    let s = c.in-Ok-seal_behind.sealed in
    let w : Lays g.row.W (record { id = i.id; bits = i.bits; told = g.S.Shelf.written i.file; size = g.S.Shelf.written_size i.file; entries = pairs_of i.entries.items; place = i.place; total = i.total; last = i.last; text = i.text.items; first = i.first; count = i.count; room = i.room }) c.requires.stands.0 []
    = subst (λ (v : Making). Lays g.row.W v c.requires.stands.0 []) (sym c.self.view_is) c.requires.stands.2 in
    let few : i.total < 2 ^ 32 = search rules in
    let tail : c.deref-2.result.now ≡ index g.row.W (pairs_of i.entries.items) ++ footer i.total i.place
    = c.deref-2.ensures.value ∙ c.in-Ok-put_footer.ensures ∙ ap (λ (l : List ℕ). l ++ footer i.total i.place) (c.in-Ok.ensures ∙ ap (λ (l : List ℕ). l ++ index g.row.W (pairs_of c.deref.result.now)) c.new-tail.ensures.items ∙ ap (λ l. index g.row.W (pairs_of l)) c.deref.ensures.value) in
    let told : g.S.Shelf.content s ≡ told_more (g.S.Shelf.written i.file) (index g.row.W (pairs_of i.entries.items) ++ footer i.total i.place) = c.in-Ok-seal_behind.ensures.content ∙ ap (λ (l : List ℕ). told_more (g.S.Shelf.written i.file) l) tail in
    let size : c.size-size.result ≡ g.S.Shelf.written_size i.file + length (index g.row.W (pairs_of i.entries.items) ++ footer i.total i.place) = c.size-size.ensures ∙ c.in-Ok-seal_behind.ensures.size ∙ ap (λ (l : List ℕ). g.S.Shelf.written_size i.file + length l) tail in
    let all : Sealed g.row.W (record { id = i.id; bits = i.bits; count = i.total; size = c.size-size.result; entries = pairs_of i.entries.items; place = i.place; told = g.S.Shelf.content s }) (cells_in c.requires.stands.0)
    = sealed g.row.W i.id i.bits (g.S.Shelf.written_size i.file) i.place i.total i.last i.first i.count i.room (g.S.Shelf.written i.file) (pairs_of i.entries.items) i.text.items c.requires.stands.0
    (g.S.Shelf.content s) c.size-size.result c.requires.stands.1 few w told size in
    (c.self.invariant.0, c.self.invariant.1, c.self.invariant.2, c.self.invariant.3, sym c.size-size.ensures, all.filed)

pub returns-clause-file : goal.returns-clause-file
returns-clause-file g c = λ blocks filled lays.
    let i = c.self.inside in
    let s = c.in-Ok-seal_behind.sealed in
    let w : Lays g.row.W (record { id = i.id; bits = i.bits; told = g.S.Shelf.written i.file; size = g.S.Shelf.written_size i.file; entries = pairs_of i.entries.items; place = i.place; total = i.total; last = i.last; text = i.text.items; first = i.first; count = i.count; room = i.room }) blocks []
    = subst (λ (v : Making). Lays g.row.W v blocks []) (sym c.self.view_is) lays in
    let few : i.total < 2 ^ 32 = search rules in
    let tail : c.deref-2.result.now ≡ index g.row.W (pairs_of i.entries.items) ++ footer i.total i.place
    = c.deref-2.ensures.value ∙ c.in-Ok-put_footer.ensures ∙ ap (λ (l : List ℕ). l ++ footer i.total i.place) (c.in-Ok.ensures ∙ ap (λ (l : List ℕ). l ++ index g.row.W (pairs_of c.deref.result.now)) c.new-tail.ensures.items ∙ ap (λ l. index g.row.W (pairs_of l)) c.deref.ensures.value) in
    let told : g.S.Shelf.content s ≡ told_more (g.S.Shelf.written i.file) (index g.row.W (pairs_of i.entries.items) ++ footer i.total i.place) = c.in-Ok-seal_behind.ensures.content ∙ ap (λ (l : List ℕ). told_more (g.S.Shelf.written i.file) l) tail in
    let size : c.size-size.result ≡ g.S.Shelf.written_size i.file + length (index g.row.W (pairs_of i.entries.items) ++ footer i.total i.place) = c.size-size.ensures ∙ c.in-Ok-seal_behind.ensures.size ∙ ap (λ (l : List ℕ). g.S.Shelf.written_size i.file + length l) tail in
    let all : Sealed g.row.W (record { id = i.id; bits = i.bits; count = i.total; size = c.size-size.result; entries = pairs_of i.entries.items; place = i.place; told = g.S.Shelf.content s }) (cells_in blocks)
    = sealed g.row.W i.id i.bits (g.S.Shelf.written_size i.file) i.place i.total i.last i.first i.count i.room (g.S.Shelf.written i.file) (pairs_of i.entries.items) i.text.items blocks
    (g.S.Shelf.content s) c.size-size.result filled few w told size in
    (all.file, all.counted)

not_err : {T E : Type 0} (x : T) (e : E) → IsErrOf {T = T} {E = E} (Ok x) e → ⊥
not_err {T = T} {E = E} x e is = let h : ◌≡◌ {A = Result T E} (Ok x) (Err e) = is in cc

pub returns-clause-sealed : goal.returns-clause-sealed
returns-clause-sealed g c =
    let i = c.self.inside in
    let b = c.in-Ok-seal_behind.ensures.sealed in
    let id : c.args.self.id ≡ i.id = ap (λ (v : Making). v.id) (sym c.self.view_is) in
    (b.0, b.1, b.2 ∙ ap (λ (n : ℕ). option_map (with_sealed n b.0) (g.S.Shelf.files c.args.shelf.now)) (c.self.invariant.4 ∙ sym id))

pub returns-clause-cause : goal.returns-clause-cause
returns-clause-cause g c = record { later = c.in-Ok-seal_behind.ensures.cause.later; rose = λ failed. absurd (not_err _ _ failed) }
