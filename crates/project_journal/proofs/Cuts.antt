-- Bytes that break off among the points of a header: they have no whole header, and they say one thing.
use Rattle.project_journal.proofs.Common.{◌≡◌, ℕ, ◌-◌, ◌<◌, List, ◌++◌, length, map, sym, ◌∙◌, ap, arith}
use Rattle.project_journal.proofs.Common.{Some, length-map, Whole, Early, Form}
use Rattle.project_journal.proofs.Common.{IsForm, Contents, Entry, IsCut, IsHeader, Log, bytes_in, body_at}
use Rattle.project_journal.proofs.Common.{log_of, next_point, Base, Damaged, field}
use Rattle.project_journal.proofs.Bases.{OneMore, same_base, same_fields, same_front, same_rows}
use Rattle.project_journal.proofs.Once.{contents_same, log_same, next_whole}

point_there : (at : ℕ) (x : List ℕ) → (more : OneMore x) → next_point at x ≡ Whole (length more.next.bytes)
point_there at x more =
    let e : Entry = record { gate = 1; size = more.next.size; body = more.next.bytes } in
    ap (next_point at) more.parts
    ∙ next_whole (at - 1) e more.rest (record { gate = λ z. cc; size = more.whole.size; body = more.whole.bytes })

-- where they break off no more point stands
cut_stops : (form : Form) (bytes : List ℕ) (j : Contents) → (cut : IsCut form bytes j) → OneMore cut.headed.rest → ⊥
cut_stops form bytes j cut more =
    let no : Early cut.fault ≡ Whole (length more.next.bytes) =
    sym cut.ends ∙ point_there j.end cut.headed.rest more in
    cc

pub never_cut : (form : Form) (log : Log) (j : Contents) (head rest bytes : List ℕ) → IsForm form → IsHeader form head log
    → bytes ≡ head ++ rest → IsCut form bytes j → ⊥
never_cut form log j head rest bytes known is parts cut =
    let h = cut.headed in
    let first = same_fields form.header_size h.front head _ _ h.rest rest h.least is.least h.fields is.parts
    (sym h.parts ∙ parts) in
    let base : j.base ≡ log.base = sym h.base ∙ same_base form h.front head known first.fields ∙ is.base in
    let count : length h.rows ≡ length j.points = sym (length-map h.rows bytes_in) ∙ ap length h.points in
    let fewer : length h.rows < length is.rows =
    omega (arith, count, cut.fewer, is.count, ap (λ (b : Base). b.count) base) in
    let same = same_rows h.rows is.rows h.rest rest (λ less. cut_stops form bytes j cut)
    (λ less. omega (arith, fewer, less)) h.each is.each first.rest in
    omega (arith, fewer, length-map h.rows bytes_in, length-map is.rows bytes_in, ap length same.points)

early_is : (d e : Damaged) → Early d ≡ Early e → d ≡ e
early_is d e same = cc

-- bytes that break off say one thing
pub cut_once : (form : Form) (bytes : List ℕ) (i j : Contents) → IsCut form bytes i → IsCut form bytes j → i ≡ j
cut_once form bytes i j p q =
    let n = form.header_size in
    let h = p.headed in
    let k = q.headed in
    let first = same_fields n h.front k.front _ _ h.rest k.rest h.least k.least h.fields k.fields
    (sym h.parts ∙ k.parts) in
    let same = same_rows h.rows k.rows h.rest k.rest (λ less. cut_stops form bytes i p)
    (λ less. cut_stops form bytes j q) h.each k.each first.rest in
    let front : h.front ≡ k.front = same_front n h.front k.front _ _ first.fields h.fields k.fields same.bytes in
    let end : i.end ≡ j.end = h.place ∙ ap length front ∙ sym k.place in
    let fault : p.fault ≡ q.fault = early_is p.fault q.fault
    (sym p.ends ∙ ap (λ (at : ℕ). next_point at h.rest) end ∙ ap (next_point j.end) same.rest ∙ q.ends) in
    let records : i.records ≡ j.records = h.none ∙ sym k.none in
    let log : log_of i ≡ log_of j = log_same (log_of i) (log_of j) (sym h.rate ∙ ap (field 9 4) front ∙ k.rate)
    (sym h.block_size ∙ ap (field 13 4) front ∙ k.block_size) (sym h.depth ∙ ap (field 17 4) front ∙ k.depth)
    (sym h.base ∙ ap form.base_at front ∙ k.base) (sym h.points ∙ same.points ∙ k.points)
    (ap (map body_at) records) in
    contents_same i j log records end (p.early ∙ ap Some fault ∙ sym q.early)
