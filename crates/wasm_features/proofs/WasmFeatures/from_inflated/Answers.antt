use Rattle.wasm_features.specs.Features.{MutableGlobal, SaturatingFloatToInt, SignExtension, ReferenceTypes, MultiValue, BulkMemory, Simd, RelaxedSimd, Threads, SharedEverythingThreads, TailCall, Floats, MultiMemory, Exceptions, Memory64, ExtendedConst, FunctionReferences, Gc, CustomPageSizes, LegacyExceptions, GcTypes, WideArithmetic, CallIndirectOverlong, BulkMemoryOpt}
use Rattle.wasm_features.proofs.Fields.{none_told, then_set, all_told}
use Rattle.wasm_features.proofs.WasmFeatures.from_inflated.Goals as goal

pub returns : goal.returns
returns c =
    let told = none_told c.args.fields _ c.empty-features.ensures in
    let told = then_set c.args.fields _ MutableGlobal _ _ told c.set.ensures in
    let told = then_set c.args.fields _ SaturatingFloatToInt _ _ told c.set-2.ensures in
    let told = then_set c.args.fields _ SignExtension _ _ told c.set-3.ensures in
    let told = then_set c.args.fields _ ReferenceTypes _ _ told c.set-4.ensures in
    let told = then_set c.args.fields _ MultiValue _ _ told c.set-5.ensures in
    let told = then_set c.args.fields _ BulkMemory _ _ told c.set-6.ensures in
    let told = then_set c.args.fields _ Simd _ _ told c.set-7.ensures in
    let told = then_set c.args.fields _ RelaxedSimd _ _ told c.set-8.ensures in
    let told = then_set c.args.fields _ Threads _ _ told c.set-9.ensures in
    let told = then_set c.args.fields _ SharedEverythingThreads _ _ told c.set-10.ensures in
    let told = then_set c.args.fields _ TailCall _ _ told c.set-11.ensures in
    let told = then_set c.args.fields _ Floats _ _ told c.set-12.ensures in
    let told = then_set c.args.fields _ MultiMemory _ _ told c.set-13.ensures in
    let told = then_set c.args.fields _ Exceptions _ _ told c.set-14.ensures in
    let told = then_set c.args.fields _ Memory64 _ _ told c.set-15.ensures in
    let told = then_set c.args.fields _ ExtendedConst _ _ told c.set-16.ensures in
    let told = then_set c.args.fields _ FunctionReferences _ _ told c.set-17.ensures in
    let told = then_set c.args.fields _ Gc _ _ told c.set-18.ensures in
    let told = then_set c.args.fields _ CustomPageSizes _ _ told c.set-19.ensures in
    let told = then_set c.args.fields _ LegacyExceptions _ _ told c.set-20.ensures in
    let told = then_set c.args.fields _ GcTypes _ _ told c.set-21.ensures in
    let told = then_set c.args.fields _ WideArithmetic _ _ told c.set-22.ensures in
    let told = then_set c.args.fields _ CallIndirectOverlong _ _ told c.set-23.ensures in
    let told = then_set c.args.fields _ BulkMemoryOpt _ _ told c.set-24.ensures in
    all_told c.args.fields _ told
